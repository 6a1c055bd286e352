-- The split of a branch asked for, and the two pages behind it.
use Rattle.std.proofs.Common.{◌≡◌, ℕ, suc, ◌+◌, ◌<◌, ◌≤◌, ◌^◌, List, [], ◌∷◌, ◌++◌, length, Option, Some, None, Result, Ok, Err, true, false, eqb, sym, ap, subst, ◌∙◌, refl, arith, append-nil, inl, inr}
use Rattle.std.specs.Prelude.{IfOk, IsOk, IsTrue, ◌||◌, ◌&&◌}
use Rattle.std.specs.List.{list_all}
use Rattle.std.proofs.lemmas.Bool.{cases_lt}
use mathlib.Core.List.{IsPrefix}
use Rattle.books.specs.Rights.{PageClaim}
use Rattle.front.specs.Seen.{PassSeen}
use Rattle.front.proofs.Keeping.{prefix_self}
use Rattle.store_model.specs.declared.fault.Fault.{Fault}
use Rattle.store_model.specs.declared.fault.Fault.TheVariants as faults
use Rattle.store_model.specs.declared.fault.Memory.{Memory}
use Rattle.wal_record.specs.State.{KeepsState, branch_rows, free_bytes, is_child, row_sizes, split_point}
use Rattle.wal_record.specs.Chains.{head, pages}
use Rattle.wal_record.specs.Checkpoints.{limit_of}
use Rattle.wal_record.specs.History.{life_log}
use Rattle.wal_record.specs.Images.{image}
use Rattle.wal_record.specs.Legal.{if_leaf, leaf_only}
use Rattle.wal_record.specs.Sound.{used}
use Rattle.wal_record.specs.declared.page.PageState.{PageState}
use Rattle.wal_record.specs.declared.page.Rows.{Rows}
use Rattle.wal_record.specs.declared.page.Rows.TheVariants.{Branch}
use Rattle.wal_record.specs.declared.record.Record.{Record}
use Rattle.wal_record.specs.declared.record.Record.TheVariants as kinds
use Rattle.wal_record.specs.declared.entry.Entry.{Entry}
use Rattle.log_laws.proofs.Central.{eqb_self}
use Rattle.claim_laws.specs.Entering.{IsAtRest}
use Rattle.claim_laws.specs.Filling.{HasPage}
use Rattle.claim_laws.proofs.Filling.{pages_law}
use Rattle.foster_laws.specs.Splits.{BranchHalves, upper_half}
use Rattle.foster_laws.specs.Enters.{SplitEntered}
use Rattle.foster_laws.proofs.Entering.{split_enters}
use Rattle.foster_laws.proofs.InHand.{hand_law}
use Rattle.foster_laws.proofs.Room.{next_child}
use Rattle.foster_laws.proofs.Splitting as laws
use Rattle.page_halves.specs.Parts.{lower_with, split_of}
use Rattle.page_ops.specs.Asking.{IsAskable}
use Rattle.page_ops.specs.Claims.{Claims, AreInRange, no_claims}
use Rattle.page_ops.specs.Groups.{Numbers, filled, has_rights}
use Rattle.page_ops.specs.Hands.{Hand, IsInHand}
use Rattle.page_ops.specs.Names.{LedgerName}
use Rattle.page_ops.specs.Outcomes.{SameHolders, page_of}
use Rattle.page_ops.specs.Seeing.{Account, IsMoment, known}
use Rattle.page_ops.specs.declared.group.Group.{Group}
use Rattle.page_ops.specs.declared.outcome.Entered.{Entered}
use Rattle.page_ops.specs.declared.outcome.Entered.TheVariants.{At}
use Rattle.asking_laws.proofs.Asks.{asks_law}
use Rattle.asking_laws.proofs.Alike.{alike_law}
use Rattle.smo.specs.Asked.{MayAsk, Asked, AskedIfMade}
use Rattle.smo.specs.Settled.{claims_of}
use Rattle.smo.specs.Splits.{EntersMade, split_by, split_group}
use Rattle.smo.proofs.MadePages as making
use Rattle.smo.proofs.Moments.{is_image, is_seen}

-- ---- the halves

module _ (s : PageState) (keeps : KeepsState s) (branch : s.rows ≡ Branch (branch_rows s.rows)) (crowded : free_bytes s < 69) where
  halves : (page prev child : ℕ) → is_child child ≡ true → BranchHalves (split_of page prev child s) s
  halves page prev child number = (laws.split s (split_of page prev child s)).branch keeps branch crowded refl number

  stays : 1 ≤ split_point (row_sizes s.rows)
  stays = (halves 0 0 2 refl).halves.some

  goes : split_point (row_sizes s.rows) < length (row_sizes s.rows)
  goes = (halves 0 0 2 refl).halves.less

pub part_stays : (hand inside : Hand) → inside ≡ hand → KeepsState inside.state → hand.state.rows ≡ Branch (branch_rows hand.state.rows) → free_bytes hand.state < 69 → 1 ≤ split_point (row_sizes inside.state.rows)
part_stays hand inside view keeps branch crowded = subst (λ (h : Hand). 1 ≤ split_point (row_sizes h.state.rows)) (sym view) (stays hand.state (subst (λ (h : Hand). KeepsState h.state) view keeps) branch crowded)

pub part_goes : (hand inside : Hand) → inside ≡ hand → KeepsState inside.state → hand.state.rows ≡ Branch (branch_rows hand.state.rows) → free_bytes hand.state < 69 → split_point (row_sizes inside.state.rows) < length (row_sizes inside.state.rows)
part_goes hand inside view keeps branch crowded = subst (λ (h : Hand). split_point (row_sizes h.state.rows) < length (row_sizes h.state.rows)) (sym view) (goes hand.state (subst (λ (h : Hand). KeepsState h.state) view keeps) branch crowded)

-- ---- the condition of asking

no_leaf : (s : PageState) (rows : Rows) → rows ≡ Branch (branch_rows rows) → leaf_only rows s ≡ None
no_leaf s (Branch rows) e = refl
no_leaf s rows e = ap (λ (r : Rows). leaf_only r s) e

module _ (opens : List Record → Type 0) (seen : List Entry) (hand : Hand) (there : IsInHand opens hand) (begins : IsPrefix hand.pass.log seen)
    (branch : hand.state.rows ≡ Branch (branch_rows hand.state.rows)) (crowded : free_bytes hand.state < 69) where
  module _ (opening : List Record) (stands : opens opening) (h : List Entry) (moment : IsMoment opens seen (claims_of hand None) h) where
    follows : (a : Option PageClaim) → IsAskable opening h a (split_group hand.page hand.state)
    follows a = elim (cases_lt (length (life_log opening h) + 3) (2 ^ 63)) [
      | inl few ↦ elim (cases_lt (limit_of (life_log opening h)) (used (life_log opening h) + 3)) [
        | inl lacks ↦ record { leaf = tt; follows = λ timely room numbers. let r = room refl in absurd (omega (arith, r, lacks)); declines = λ full. tt }
        | inr enough ↦
            let seen_now = is_seen opens seen hand None there begins opening stands h moment in
            let log = life_log opening h in
            let lawful = seen_now.rest.sound.lawful in
            let room : HasPage log = (pages_law log).room lawful (omega (arith, enough)) in
            let x = split_of hand.page (head log hand.page) (suc (pages log)) hand.state in
            let parts = halves hand.state there.keeps branch crowded hand.page (head log hand.page) (suc (pages log)) (next_child log lawful seen_now.some room) in
            let here = is_image opens seen hand None there begins opening stands h moment in
            let suits = (hand_law opening h).split seen_now (omega (arith, few)) room x hand.state here refl refl parts.halves in
            let asks = (asks_law opening h []).branch_split seen_now.lawful (subst (IsAtRest opening) (sym (append-nil h)) seen_now.rest) a x
            (ap (λ (l : List Entry). head (life_log opening l) hand.page) (append-nil h)) (ap if_leaf here ∙ no_leaf hand.state hand.state.rows branch) suits in
            (alike_law opening h (record { recs = kinds.Split x ∷ []; said = None; room = true; lsn = 0 }) (split_group hand.page hand.state)).asks (record { records = (λ n. refl, tt); said = refl; room = refl }) a
            (subst (λ (l : List Entry). IsAskable opening l a (record { recs = kinds.Split x ∷ []; said = None; room = true; lsn = 0 })) (append-nil h) asks)
      ]
      | inr many ↦ record { leaf = tt; follows = λ timely room numbers. absurd (omega (arith, numbers, many)); declines = λ full. tt }
    ]

  pub may_ask : MayAsk opens seen (claims_of hand None) (split_group hand.page hand.state)
  may_ask = record {
    group = record {
      few = omega arith;
      kinds = refl;
      spelled = (record { page = there.number; page_prev = refl; child = refl; child_state = (halves hand.state there.keeps branch crowded 0 0 2 refl).halves.upper }, tt);
      told = refl;
      alone = λ n. refl;
    };
    rights = record {
      pages = subst (λ (o : Option PageClaim). IsTrue (list_all (has_rights (Some 0) (record { a = o; b = None; c = None; s = None; m = None })) (split_by hand.page hand.state 0 0 ∷ []))) (sym there.right) (own hand.page);
      new = λ n. refl;
      owners = (tt, tt);
      speaker = tt;
      maintenance = λ n. absurd (cc n);
    };
    askable = λ opening h stands moment. follows opening stands h moment hand.right;
    timely = λ opening stands. ((seen, prefix_self seen, tt), tt);
  }
    where
      own : (p : ℕ) → (((eqb p p || false) || (eqb 0 p)) && true) && true ≡ true
      own p = ap (λ b. (((b || false) || (eqb 0 p)) && true) && true) (eqb_self p)

-- the group that was made is that of the split
group_is : (upper : Result PageState Memory) (made : Result Group Memory) (page : ℕ) (s : PageState) → IfOk upper (λ (u : PageState). u ≡ upper_half s)
    → IfOk made (λ (g : Group). IfOk upper (λ (u : PageState). g ≡ record { recs = kinds.Split (record { page = page; page_prev = 0; child = 0; child_state = u }) ∷ []; said = None; room = true; lsn = 0 }))
    → IfOk made (λ (g : Group). IsOk upper) → IfOk made (λ (g : Group). g ≡ split_group page s)
group_is upper (Err m) page s half is some = tt
group_is (Err u) (Ok g) page s half is some = absurd (cc some)
group_is (Ok u) (Ok g) page s half is some = is ∙ (λ i. record { recs = kinds.Split (record { page = page; page_prev = 0; child = 0; child_state = half i }) ∷ []; said = None; room = true; lsn = 0 })

-- ---- the pages behind it

module _ (opens : List Record → Type 0) (ledger sessions : LedgerName) (hand : Hand) (there : IsInHand opens hand) (seen seen' : PassSeen Entry) (begins : IsPrefix hand.pass.log seen.log)
    (branch : hand.state.rows ≡ Branch (branch_rows hand.state.rows)) (crowded : free_bytes hand.state < 69) (a a' : Account) (z : Claims) (pos : ℕ)
    (asked : Asked opens ledger sessions (split_group hand.page hand.state) (Ok (At pos)) (known a seen (claims_of hand None)) (known a' seen' z)) where
  abbrev r : Record
  r = split_by hand.page hand.state 0 0

  abbrev child : ℕ
  child = asked.filled.child

  both : BranchHalves (split_of hand.page 0 child hand.state) hand.state
  both = halves hand.state there.keeps branch crowded hand.page 0 child (making.number opens ledger sessions hand None there seen seen' a a' z (split_group hand.page hand.state) 0 refl pos begins asked)

  abbrev filled_in : (n : Numbers) × (n.child ≡ child) × (asked.now.recs ≡ filled (Some 0) n r ∷ [])
  filled_in = making.record_is opens ledger sessions hand None there seen seen' a a' z (split_group hand.page hand.state) 0 refl pos begins asked r refl

  entered : (opening : List Record) → opens opening → SplitEntered (life_log opening asked.enters.enters.moment) (split_of hand.page filled_in.0.page_prev filled_in.0.child hand.state) hand.state
  entered opening stands =
      let lawful = making.lawful opens ledger sessions hand None there seen seen' a a' z (split_group hand.page hand.state) 0 refl pos begins asked r refl opening stands in
      (split_enters (life_log opening asked.enters.enters.moment) (split_of hand.page filled_in.0.page_prev filled_in.0.child hand.state) hand.state).entered lawful.0
      (making.some opens ledger sessions hand None there seen seen' a a' z (split_group hand.page hand.state) 0 refl pos begins asked opening stands)
      (making.was opens ledger sessions hand None there seen seen' a a' z (split_group hand.page hand.state) 0 refl pos begins asked opening stands) lawful.1

  log_is : (opening : List Record) → life_log opening seen'.log ≡ life_log opening asked.enters.enters.moment ++ kinds.Split (split_of hand.page filled_in.0.page_prev filled_in.0.child hand.state) ∷ []
  log_is = making.log_is opens ledger sessions hand None there seen seen' a a' z (split_group hand.page hand.state) 0 refl pos begins asked r refl

  lower_there : (opening : List Record) → opens opening → image (life_log opening seen'.log) hand.page ≡ Some (lower_with child hand.state)
  lower_there opening stands = ap (λ (l : List Record). image l hand.page) (log_is opening) ∙ (entered opening stands).pages.page ∙ ap (λ (n : ℕ). Some (lower_with n hand.state)) filled_in.1

  upper_there : (opening : List Record) → opens opening → image (life_log opening seen'.log) child ≡ Some (upper_half hand.state)
  upper_there opening stands = ap (λ (l : List Record). image l child) (log_is opening) ∙ ap (image (life_log opening asked.enters.enters.moment ++ kinds.Split (split_of hand.page filled_in.0.page_prev filled_in.0.child hand.state) ∷ [])) (sym filled_in.1) ∙ (entered opening stands).pages.child

  pub lower_in_hand : (c : PageClaim) → z.a ≡ Some c → page_of z.a ≡ page_of hand.right → AreInRange z
      → IsInHand opens (record { page = hand.page; lsn = c.lsn; state = lower_with child hand.state; dirty = true; right = Some c; pass = seen' })
  lower_in_hand c = making.kept opens ledger sessions hand None there seen seen' a a' z (split_group hand.page hand.state) 0 refl pos begins asked (lower_with child hand.state) true c lower_there both.halves.lower

  pub upper_in_hand : (c : PageClaim) → z.c ≡ Some c → AreInRange z → IsInHand opens (record { page = c.page; lsn = c.lsn; state = upper_half hand.state; dirty = true; right = Some c; pass = seen' })
  upper_in_hand c = making.new_page opens ledger sessions hand None there seen seen' a a' z (split_group hand.page hand.state) 0 refl pos begins asked (upper_half hand.state) c upper_there both.halves.upper

-- ---- as the body has them

module _ (opens : List Record → Type 0) (ledger sessions : LedgerName) (hand inside : Hand) (view : inside ≡ hand) (there : IsInHand opens inside) (seen seen' : PassSeen Entry) (begins : IsPrefix hand.pass.log seen.log)
    (branch : hand.state.rows ≡ Branch (branch_rows hand.state.rows)) (crowded : free_bytes hand.state < 69) (upper : Result PageState Memory) (made : Result Group Memory)
    (half : IfOk upper (λ (u : PageState). u ≡ upper_half inside.state))
    (is : IfOk made (λ (g : Group). IfOk upper (λ (u : PageState). g ≡ record { recs = kinds.Split (record { page = inside.page; page_prev = 0; child = 0; child_state = u }) ∷ []; said = None; room = true; lsn = 0 })))
    (some : IfOk made (λ (g : Group). IsOk upper)) (right : Option PageClaim) (x y : Claims) (right_is : right ≡ inside.right) (none : x ≡ no_claims) (claims : y ≡ record x { a = right }) where
  abbrev asks : Hand → Group
  asks h = split_group h.page h.state

  mine : IsInHand opens hand
  mine = subst (IsInHand opens) view there

  is_asked : IfOk made (λ (g : Group). g ≡ split_group inside.page inside.state)
  is_asked = group_is upper made inside.page inside.state half is some

  pub may_split : (z : Claims) → IfOk made (MayAsk opens seen.log y)
  may_split z = making.may_here opens ledger sessions asks hand inside view seen seen' made is_asked (Err memory) right x y z z right_is none claims (may_ask opens seen.log hand mine begins branch crowded)
    where
      memory : Fault
      memory = faults.Memory

  module _ (result : Result Entered Fault) (pos : ℕ) (result_is : result ≡ Ok (At pos)) (z z' : Claims) (a a' : Account) (asked : AskedIfMade opens ledger sessions made result (known a seen y) (known a' seen' z)) (holders : SameHolders y z) (view' : z' ≡ z) (range : AreInRange z')
      (took took' : Option PageClaim) (c c' : PageClaim) (took_is : took ≡ z'.a) (took_some : took ≡ Some c) (took'_is : took' ≡ z'.c) (took'_some : took' ≡ Some c') where
    asked' : Asked opens ledger sessions (split_group hand.page hand.state) (Ok (At pos)) (known a seen (claims_of hand None)) (known a' seen' z)
    asked' = making.asked_here opens ledger sessions asks hand inside view seen seen' made is_asked result right x y z z' right_is none claims a a' pos result_is asked

    old_is : z.a ≡ Some c
    old_is = making.old_here opens ledger sessions asks hand inside view seen seen' made is_asked result right x y z z' right_is none claims c took view' took_is took_some

    new_is : z.c ≡ Some c'
    new_is = making.new_here opens ledger sessions asks hand inside view seen seen' made is_asked result right x y z z' right_is none claims c' took' view' took'_is took'_some

    same : SameHolders (claims_of hand None) z
    same = making.same_here opens ledger sessions asks hand inside view seen seen' made is_asked result right x y z z' right_is none claims holders

    pub upper_settled : (u : PageState) (pass : PassSeen Entry) → upper ≡ Ok u → pass ≡ seen' → IsInHand opens (record { page = c'.page; lsn = c'.lsn; state = u; dirty = true; right = Some c'; pass = pass })
    upper_settled u pass u_is pass_is =
        let state : u ≡ upper_half hand.state = subst (λ (o : Result PageState Memory). IfOk o (λ (w : PageState). w ≡ upper_half inside.state)) u_is half ∙ ap (λ (h : Hand). upper_half h.state) view in
        subst (IsInHand opens) (λ i. record { page = c'.page; lsn = c'.lsn; state = sym state i; dirty = true; right = Some c'; pass = sym pass_is i })
        (upper_in_hand opens ledger sessions hand mine seen seen' begins branch crowded a a' z pos asked' c' new_is (subst AreInRange view' range))

    pub lower_settled : (lsn child : ℕ) (state : PageState) (pass : PassSeen Entry) → lsn ≡ c.lsn → child ≡ c'.page → state ≡ lower_with child inside.state → pass ≡ seen' → IsInHand opens (record { page = inside.page; lsn = lsn; state = state; dirty = true; right = Some c; pass = pass })
    lower_settled lsn child state pass lsn_is child_is state_is pass_is =
        let here = lower_in_hand opens ledger sessions hand mine seen seen' begins branch crowded a a' z pos asked' c old_is same.a (subst AreInRange view' range) in
        let page : c'.page ≡ asked'.filled.child = making.is_made opens ledger sessions hand None mine seen seen' a a' z (split_group hand.page hand.state) 0 refl pos begins asked' c' new_is in
        let made_is : state ≡ lower_with asked'.filled.child hand.state = state_is ∙ (λ i. lower_with ((child_is ∙ page) i) ((view i).state)) in
        subst (IsInHand opens) (λ i. record { page = (sym view i).page; lsn = sym lsn_is i; state = sym made_is i; dirty = true; right = Some c; pass = sym pass_is i }) here

    pub split_entered : (child : ℕ) (pass : PassSeen Entry) → child ≡ c'.page → pass ≡ seen'
        → EntersMade opens ledger sessions (split_by hand.page hand.state) (Ok (Some child)) (known a seen (claims_of hand None)) (known a' pass (record { a = Some c; b = None; c = None; s = None; m = None }))
    split_entered child pass child_is pass_is =
        subst (λ (q : ℕ × (PassSeen Entry)). EntersMade opens ledger sessions (split_by hand.page hand.state) (Ok (Some q.0)) (known a seen (claims_of hand None)) (known a' q.1 (record { a = Some c; b = None; c = None; s = None; m = None }))) (λ i. (sym child_is i, sym pass_is i))
        (making.made_enters opens ledger sessions hand None mine seen seen' a a' z (split_group hand.page hand.state) 0 refl pos begins asked' (split_by hand.page hand.state 0 0) refl (split_by hand.page hand.state) (λ n. refl) c c' refl old_is new_is refl same)
