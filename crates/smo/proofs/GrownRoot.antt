-- A growth asked for, and the new root and its child behind it.
use Rattle.std.proofs.Common.{◌≡◌, ℕ, suc, ◌+◌, ◌<◌, ◌^◌, List, [], ◌∷◌, ◌++◌, length, Option, Some, None, Result, Ok, Err, true, false, eqb, nat_lt, sym, ap, subst, ◌∙◌, refl, arith, append-nil, inl, inr}
use Rattle.std.specs.Prelude.{IfOk, IsTrue, is_some, ◌||◌, ◌&&◌}
use Rattle.std.specs.List.{list_all}
use Rattle.std.proofs.lemmas.Bool.{cases_lt, and_from, eq-eqb}
use Rattle.std.proofs.lemmas.Bool.Decides.{nat_tests}
use mathlib.Core.List.{IsPrefix}
use Rattle.books.specs.Rights.{PageClaim}
use Rattle.front.specs.Seen.{PassSeen}
use Rattle.front.proofs.Keeping.{prefix_self}
use Rattle.store_model.specs.declared.fault.Fault.{Fault}
use Rattle.store_model.specs.declared.fault.Fault.TheVariants as faults
use Rattle.store_model.specs.declared.fault.Memory.{Memory}
use Rattle.wal_record.specs.State.{KeepsState, is_child}
use Rattle.wal_record.specs.Chains.{head, pages}
use Rattle.wal_record.specs.Checkpoints.{limit_of}
use Rattle.wal_record.specs.History.{life_log}
use Rattle.wal_record.specs.Images.{grown, image}
use Rattle.wal_record.specs.Sound.{used}
use Rattle.wal_record.specs.declared.page.PageState.{PageState}
use Rattle.wal_record.specs.declared.record.Record.{Record}
use Rattle.wal_record.specs.declared.record.Record.TheVariants as kinds
use Rattle.wal_record.specs.declared.entry.Entry.{Entry}
use Rattle.claim_laws.specs.Entering.{IsAtRest}
use Rattle.claim_laws.specs.Filling.{HasPage}
use Rattle.claim_laws.proofs.Filling.{pages_law}
use Rattle.foster_laws.specs.Enters.{GrowEntered}
use Rattle.foster_laws.proofs.Entering.{grow_enters}
use Rattle.foster_laws.proofs.InHand.{hand_law}
use Rattle.page_ops.specs.Asking.{IsAskable}
use Rattle.page_ops.specs.Claims.{Claims, AreInRange, no_claims}
use Rattle.page_ops.specs.Groups.{Numbers, filled, has_rights}
use Rattle.page_ops.specs.Hands.{Hand, IsInHand}
use Rattle.page_ops.specs.Names.{LedgerName}
use Rattle.page_ops.specs.Outcomes.{SameHolders, page_of}
use Rattle.page_ops.specs.Seeing.{Account, IsMoment, known}
use Rattle.page_ops.specs.declared.group.Group.{Group}
use Rattle.page_ops.specs.declared.outcome.Entered.{Entered}
use Rattle.page_ops.specs.declared.outcome.Entered.TheVariants.{At}
use Rattle.asking_laws.proofs.Asks.{asks_law}
use Rattle.asking_laws.proofs.Alike.{alike_law}
use Rattle.smo.specs.Asked.{MayAsk, Asked, AskedIfMade}
use Rattle.smo.specs.Settled.{claims_of}
use Rattle.smo.specs.Splits.{EntersMade, grow_by, grow_of, grow_group}
use Rattle.smo.proofs.MadePages as making
use Rattle.smo.proofs.Moments.{is_image, is_seen}

-- ---- the new root

one_higher : (level : ℕ) → level < 255 → nat_lt (level + 1) 256 ≡ true
one_higher level h = grind (arith, nat_tests)

root_keeps : (child : ℕ) (s : PageState) → s.level < 255 → is_child child ≡ true → KeepsState (grown child s)
root_keeps child s level number = record {
  level = one_higher s.level level;
  fences = refl;
  texts = refl;
  foster = refl;
  rows = (omega arith, refl, refl, and_from _ _ (and_from _ _ refl (and_from _ _ refl number)) refl);
  size = omega arith;
}

-- ---- the condition of asking

module _ (opens : List Record → Type 0) (seen : List Entry) (hand : Hand) (there : IsInHand opens hand) (begins : IsPrefix hand.pass.log seen) (root : hand.page ≡ 1) (foster : is_some hand.state.foster ≡ true) (level : hand.state.level < 255) where
  module _ (opening : List Record) (stands : opens opening) (h : List Entry) (moment : IsMoment opens seen (claims_of hand None) h) where
    follows : (a : Option PageClaim) → IsAskable opening h a (grow_group hand.state)
    follows a = elim (cases_lt (length (life_log opening h) + 3) (2 ^ 63)) [
      | inl few ↦ elim (cases_lt (limit_of (life_log opening h)) (used (life_log opening h) + 3)) [
        | inl lacks ↦ record { leaf = tt; follows = λ timely room numbers. let r = room refl in absurd (omega (arith, r, lacks)); declines = λ full. tt }
        | inr enough ↦
            let seen_now = is_seen opens seen hand None there begins opening stands h moment in
            let log = life_log opening h in
            let room : HasPage log = (pages_law log).room seen_now.rest.sound.lawful (omega (arith, enough)) in
            let g = grow_of (head log 1) (suc (pages log)) hand.state in
            let here = ap (image log) (sym root) ∙ is_image opens seen hand None there begins opening stands h moment in
            let suits = (hand_law opening h).grow seen_now (omega (arith, few)) room g hand.state here refl refl refl foster level in
            let asks = (asks_law opening h []).grow seen_now.lawful (subst (IsAtRest opening) (sym (append-nil h)) seen_now.rest) a g (ap (λ (l : List Entry). head (life_log opening l) 1) (append-nil h)) suits in
            (alike_law opening h (record { recs = kinds.Grow g ∷ []; said = None; room = true; lsn = 0 }) (grow_group hand.state)).asks (record { records = (λ n. refl, tt); said = refl; room = refl }) a
            (subst (λ (l : List Entry). IsAskable opening l a (record { recs = kinds.Grow g ∷ []; said = None; room = true; lsn = 0 })) (append-nil h) asks)
      ]
      | inr many ↦ record { leaf = tt; follows = λ timely room numbers. absurd (omega (arith, numbers, many)); declines = λ full. tt }
    ]

  pub may_ask : MayAsk opens seen (claims_of hand None) (grow_group hand.state)
  may_ask = record {
    group = record { few = omega arith; kinds = refl; spelled = (record { page_prev = refl; child = refl; child_state = there.keeps }, tt); told = refl; alone = λ n. refl };
    rights = record {
      pages = subst (λ (o : Option PageClaim). IsTrue (list_all (has_rights (Some 0) (record { a = o; b = None; c = None; s = None; m = None })) (grow_by hand.state 0 0 ∷ []))) (sym there.right) own;
      new = λ n. refl;
      owners = (tt, tt);
      speaker = tt;
      maintenance = λ n. absurd (cc n);
    };
    askable = λ opening h stands moment. follows opening stands h moment hand.right;
    timely = λ opening stands. ((seen, prefix_self seen, tt), tt);
  }
    where
      own : (((eqb hand.page 1 || false) || false) && true) && true ≡ true
      own = ap (λ b. (((b || false) || false) && true) && true) (eq-eqb hand.page 1 root)

-- ---- the pages behind it

module _ (opens : List Record → Type 0) (ledger sessions : LedgerName) (hand : Hand) (there : IsInHand opens hand) (seen seen' : PassSeen Entry) (begins : IsPrefix hand.pass.log seen.log)
    (root : hand.page ≡ 1) (level : hand.state.level < 255) (a a' : Account) (z : Claims) (pos : ℕ)
    (asked : Asked opens ledger sessions (grow_group hand.state) (Ok (At pos)) (known a seen (claims_of hand None)) (known a' seen' z)) where
  abbrev r : Record
  r = grow_by hand.state 0 0

  abbrev child : ℕ
  child = asked.filled.child

  abbrev filled_in : (n : Numbers) × (n.child ≡ child) × (asked.now.recs ≡ filled (Some 0) n r ∷ [])
  filled_in = making.record_is opens ledger sessions hand None there seen seen' a a' z (grow_group hand.state) 0 refl pos begins asked r refl

  entered : (opening : List Record) → opens opening → GrowEntered (life_log opening asked.enters.enters.moment) (grow_of filled_in.0.page_prev filled_in.0.child hand.state) hand.state
  entered opening stands =
      let lawful = making.lawful opens ledger sessions hand None there seen seen' a a' z (grow_group hand.state) 0 refl pos begins asked r refl opening stands in
      (grow_enters (life_log opening asked.enters.enters.moment) (grow_of filled_in.0.page_prev filled_in.0.child hand.state) hand.state).entered lawful.0
      (making.some opens ledger sessions hand None there seen seen' a a' z (grow_group hand.state) 0 refl pos begins asked opening stands)
      (ap (image (life_log opening asked.enters.enters.moment)) (sym root) ∙ making.was opens ledger sessions hand None there seen seen' a a' z (grow_group hand.state) 0 refl pos begins asked opening stands) refl lawful.1

  log_is : (opening : List Record) → life_log opening seen'.log ≡ life_log opening asked.enters.enters.moment ++ grow_by hand.state filled_in.0.page_prev filled_in.0.child ∷ []
  log_is = making.log_is opens ledger sessions hand None there seen seen' a a' z (grow_group hand.state) 0 refl pos begins asked r refl

  root_there : (opening : List Record) → opens opening → image (life_log opening seen'.log) hand.page ≡ Some (grown child hand.state)
  root_there opening stands =
      (λ i. image (log_is opening i) (root i)) ∙ (entered opening stands).root ∙ ap (λ (n : ℕ). Some (grown n hand.state)) filled_in.1

  child_there : (opening : List Record) → opens opening → image (life_log opening seen'.log) child ≡ Some hand.state
  child_there opening stands = (λ i. image (log_is opening i) (sym filled_in.1 i)) ∙ (entered opening stands).child

  pub root_in_hand : (c : PageClaim) → z.a ≡ Some c → page_of z.a ≡ page_of hand.right → AreInRange z
      → IsInHand opens (record { page = hand.page; lsn = c.lsn; state = grown child hand.state; dirty = true; right = Some c; pass = seen' })
  root_in_hand c =
      making.kept opens ledger sessions hand None there seen seen' a a' z (grow_group hand.state) 0 refl pos begins asked (grown child hand.state) true c root_there
      (root_keeps child hand.state level (making.number opens ledger sessions hand None there seen seen' a a' z (grow_group hand.state) 0 refl pos begins asked))

  pub child_in_hand : (c : PageClaim) → z.c ≡ Some c → AreInRange z → IsInHand opens (record { page = c.page; lsn = c.lsn; state = hand.state; dirty = true; right = Some c; pass = seen' })
  child_in_hand c = making.new_page opens ledger sessions hand None there seen seen' a a' z (grow_group hand.state) 0 refl pos begins asked hand.state c child_there there.keeps

-- ---- as the body has them

module _ (opens : List Record → Type 0) (ledger sessions : LedgerName) (hand inside : Hand) (view : inside ≡ hand) (there : IsInHand opens inside) (seen seen' : PassSeen Entry) (begins : IsPrefix hand.pass.log seen.log)
    (root : hand.page ≡ 1) (foster : is_some hand.state.foster ≡ true) (level : hand.state.level < 255) (made : Result Group Memory) (is : IfOk made (λ (g : Group). g ≡ grow_group inside.state))
    (right : Option PageClaim) (x y : Claims) (right_is : right ≡ inside.right) (none : x ≡ no_claims) (claims : y ≡ record x { a = right }) where
  abbrev asks : Hand → Group
  asks h = grow_group h.state

  mine : IsInHand opens hand
  mine = subst (IsInHand opens) view there

  pub may_grow : (z : Claims) → IfOk made (MayAsk opens seen.log y)
  may_grow z = making.may_here opens ledger sessions asks hand inside view seen seen' made is (Err memory) right x y z z right_is none claims (may_ask opens seen.log hand mine begins root foster level)
    where
      memory : Fault
      memory = faults.Memory

  module _ (result : Result Entered Fault) (pos : ℕ) (result_is : result ≡ Ok (At pos)) (z z' : Claims) (a a' : Account) (asked : AskedIfMade opens ledger sessions made result (known a seen y) (known a' seen' z)) (holders : SameHolders y z) (view' : z' ≡ z) (range : AreInRange z')
      (took took' : Option PageClaim) (c c' : PageClaim) (took_is : took ≡ z'.a) (took_some : took ≡ Some c) (took'_is : took' ≡ z'.c) (took'_some : took' ≡ Some c') where
    asked' : Asked opens ledger sessions (grow_group hand.state) (Ok (At pos)) (known a seen (claims_of hand None)) (known a' seen' z)
    asked' = making.asked_here opens ledger sessions asks hand inside view seen seen' made is result right x y z z' right_is none claims a a' pos result_is asked

    old_is : z.a ≡ Some c
    old_is = making.old_here opens ledger sessions asks hand inside view seen seen' made is result right x y z z' right_is none claims c took view' took_is took_some

    new_is : z.c ≡ Some c'
    new_is = making.new_here opens ledger sessions asks hand inside view seen seen' made is result right x y z z' right_is none claims c' took' view' took'_is took'_some

    same : SameHolders (claims_of hand None) z
    same = making.same_here opens ledger sessions asks hand inside view seen seen' made is result right x y z z' right_is none claims holders

    pub child_settled : (state : PageState) (pass : PassSeen Entry) → state ≡ inside.state → pass ≡ seen' → IsInHand opens (record { page = c'.page; lsn = c'.lsn; state = state; dirty = true; right = Some c'; pass = pass })
    child_settled state pass state_is pass_is =
        let was : state ≡ hand.state = state_is ∙ ap (λ (h : Hand). h.state) view in
        subst (IsInHand opens) (λ i. record { page = c'.page; lsn = c'.lsn; state = sym was i; dirty = true; right = Some c'; pass = sym pass_is i })
        (child_in_hand opens ledger sessions hand mine seen seen' begins root level a a' z pos asked' c' new_is (subst AreInRange view' range))

    pub root_settled : (lsn child : ℕ) (state : PageState) (pass : PassSeen Entry) → lsn ≡ c.lsn → child ≡ c'.page → state ≡ grown child inside.state → pass ≡ seen' → IsInHand opens (record { page = inside.page; lsn = lsn; state = state; dirty = true; right = Some c; pass = pass })
    root_settled lsn child state pass lsn_is child_is state_is pass_is =
        let here = root_in_hand opens ledger sessions hand mine seen seen' begins root level a a' z pos asked' c old_is same.a (subst AreInRange view' range) in
        let page : c'.page ≡ asked'.filled.child = making.is_made opens ledger sessions hand None mine seen seen' a a' z (grow_group hand.state) 0 refl pos begins asked' c' new_is in
        let made_is : state ≡ grown asked'.filled.child hand.state = state_is ∙ (λ i. grown ((child_is ∙ page) i) ((view i).state)) in
        subst (IsInHand opens) (λ i. record { page = (sym view i).page; lsn = sym lsn_is i; state = sym made_is i; dirty = true; right = Some c; pass = sym pass_is i }) here

    pub grow_entered : (child : ℕ) (pass : PassSeen Entry) → child ≡ c'.page → pass ≡ seen'
        → EntersMade opens ledger sessions (grow_by hand.state) (Ok (Some child)) (known a seen (claims_of hand None)) (known a' pass (record { a = Some c; b = None; c = None; s = None; m = None }))
    grow_entered child pass child_is pass_is =
        subst (λ (q : ℕ × (PassSeen Entry)). EntersMade opens ledger sessions (grow_by hand.state) (Ok (Some q.0)) (known a seen (claims_of hand None)) (known a' q.1 (record { a = Some c; b = None; c = None; s = None; m = None }))) (λ i. (sym child_is i, sym pass_is i))
        (making.made_enters opens ledger sessions hand None mine seen seen' a a' z (grow_group hand.state) 0 refl pos begins asked' (grow_by hand.state 0 0) refl (grow_by hand.state) (λ n. refl) c c' refl old_is new_is refl same)
