-- An adoption asked for, and both pages behind it.
use Rattle.std.proofs.Common.{◌≡◌, ℕ, ◌+◌, ◌≤◌, ◌^◌, List, [], ◌∷◌, ◌++◌, length, Option, Some, None, Result, Ok, Err, Bool, true, false, eqb, sym, ap, subst, ◌∙◌, refl, arith, append-nil, inl, inr}
use Rattle.std.specs.Prelude.{option_map, IfOk, IsTrue, ◌||◌, ◌&&◌}
use Rattle.std.specs.List.{list_all}
use Rattle.std.proofs.lemmas.Bool.{cases_lt}
use mathlib.Core.List.{IsPrefix}
use Rattle.books.specs.Rights.{PageClaim, SessionClaim, MaintClaim}
use Rattle.front.specs.Seen.{PassSeen}
use Rattle.front.proofs.Keeping.{prefix_self}
use Rattle.store_model.specs.declared.fault.Fault.{Fault}
use Rattle.store_model.specs.declared.fault.Fault.TheVariants as faults
use Rattle.store_model.specs.declared.fault.Memory.{Memory}
use Rattle.wal_record.specs.State.{KeepsState, branch_rows, free_bytes}
use Rattle.wal_record.specs.Chains.{head}
use Rattle.wal_record.specs.History.{life_log}
use Rattle.wal_record.specs.Images.{CanTakeChild, image}
use Rattle.wal_record.specs.Sound.{AreLawful}
use Rattle.wal_record.specs.declared.page.PageState.{PageState}
use Rattle.wal_record.specs.declared.page.Foster.{Foster}
use Rattle.wal_record.specs.declared.page.Rows.TheVariants.{Branch}
use Rattle.wal_record.specs.declared.record.Adopt.{Adopt}
use Rattle.wal_record.specs.declared.record.Record.{Record}
use Rattle.wal_record.specs.declared.record.Record.TheVariants as kinds
use Rattle.wal_record.specs.declared.entry.Entry.{Entry}
use Rattle.wal_record.specs.declared.entry.Entry.TheVariants.{Rec}
use Rattle.wal_record.proofs.Pushes.{lawful_front}
use Rattle.log_laws.proofs.Central.{eqb_self}
use Rattle.claim_laws.specs.Entering.{IsAtRest}
use Rattle.foster_laws.specs.Adopts.{Adopted}
use Rattle.foster_laws.specs.Enters.{AdoptEntered, HasFosterer}
use Rattle.foster_laws.proofs.Adopting.{adopt}
use Rattle.foster_laws.proofs.Entering.{adopt_enters}
use Rattle.foster_laws.proofs.InHand.{hand_law}
use Rattle.page_ops.specs.Asking.{IsAskable}
use Rattle.page_ops.specs.Claims.{Claims, AreInRange, no_claims}
use Rattle.page_ops.specs.Groups.{Numbers, filled, has_rights, record_entries}
use Rattle.page_ops.specs.Hands.{Hand, IsInHand}
use Rattle.page_ops.specs.Names.{LedgerName}
use Rattle.page_ops.specs.Outcomes.{KeepsRights, SameHolders, answered, page_of}
use Rattle.page_ops.specs.Seeing.{Account, Enters, IsMoment, known}
use Rattle.page_ops.specs.declared.group.Group.{Group}
use Rattle.page_ops.specs.declared.outcome.Entered.{Entered}
use Rattle.page_ops.specs.declared.outcome.Entered.TheVariants.{At}
use Rattle.page_ops.proofs.Staying.{longer_log}
use Rattle.asking_laws.proofs.Asks.{asks_law}
use Rattle.smo.specs.Asked.{MayAsk, Asked, AskedIfMade}
use Rattle.smo.proofs.MadePages.{filled_made, none_mapped}
use Rattle.adoption.specs.Adoptions.{Leads, adopt_of, with_row_for, without_child, row_bytes, claims_of_both, adoption_group, EntersAdoption}
use Rattle.adoption.proofs.BothPages as both

-- ---- what the parent can take

-- the slot of the parent that leads to the page says that it can take its foster child
pub may_take : (s t : PageState) (page : ℕ) (f : Foster) (parent prev prev' : ℕ) → KeepsState s → s.rows ≡ Branch (branch_rows s.rows) → KeepsState t → t.foster ≡ Some f → (leads : Leads s page t) → Adopted (adopt_of parent prev page prev' f) s t leads.slot
may_take s t page f parent prev prev' keeps branch keeps' foster leads = (adopt (adopt_of parent prev page prev' f) s t leads.slot).parent keeps branch keeps' foster leads.pointer

takes_of : (s t : PageState) (page : ℕ) (f : Foster) → KeepsState s → s.rows ≡ Branch (branch_rows s.rows) → KeepsState t → t.foster ≡ Some f → Leads s page t → CanTakeChild (adopt_of 0 0 0 0 f) s
takes_of s t page f keeps branch keeps' foster leads =
    let may = (may_take s t page f 0 0 0 keeps branch keeps' foster leads).takes in
    record { branch = may.branch; level = may.level; own = may.own; fresh = may.fresh; before = may.before }

pub takes_of_hands : (parent inside fosterer inside' : Hand) → inside ≡ parent → inside' ≡ fosterer → KeepsState inside.state → KeepsState inside'.state → (f : Foster) → parent.state.rows ≡ Branch (branch_rows parent.state.rows) → Leads parent.state fosterer.page fosterer.state
    → fosterer.state.foster ≡ Some f → CanTakeChild (adopt_of 0 0 0 0 f) inside.state
takes_of_hands parent inside fosterer inside' view view' keeps keeps' f branch leads foster =
    subst (λ (h : Hand). CanTakeChild (adopt_of 0 0 0 0 f) h.state) (sym view)
    (takes_of parent.state fosterer.state fosterer.page f (subst (λ (h : Hand). KeepsState h.state) view keeps) branch (subst (λ (h : Hand). KeepsState h.state) view' keeps') foster leads)

-- where the journal enters nothing, the rights are as before
rights_same : (fault : Fault) (y z : Claims) → KeepsRights (Err fault) y z → y.s ≡ None → z ≡ y
rights_same (faults.Full pages pending at) y z keeps none =
    let unowned : z.s ≡ None = none_mapped (λ (s : SessionClaim). s.session) z.s (keeps.1.s ∙ ap (option_map (λ (s : SessionClaim). s.session)) none) in
    keeps.0 ∙ (λ i. record y { s = (unowned ∙ sym none) i })
rights_same _ y z keeps none = keeps

none_told : (lsn : ℕ) (recs : List Record) (fault : Fault) → answered lsn recs None (Err fault) ≡ []
none_told lsn recs (faults.Full pages pending at) = refl
none_told lsn recs _ = refl

or_true : (b c : Bool) → c ≡ true → ((b || c) || false) ≡ true
or_true true c e = refl
or_true false c e = ap (λ x. x || false) e

both_rights : (p t : ℕ) → ((((eqb p p || eqb t p) || false) && ((((eqb p t || eqb t t) || false)) && true)) && true) ≡ true
both_rights p t =
    ap (λ b. (((b || eqb t p) || false) && (((eqb p t || eqb t t) || false) && true)) && true) (eqb_self p)
    ∙ ap (λ b. (b && true) && true) (or_true (eqb p t) (eqb t t) (eqb_self t))

module _ (opens : List Record → Type 0) (parent fosterer : Hand) (f : Foster) (there : IsInHand opens parent) (there' : IsInHand opens fosterer)
    (branch : parent.state.rows ≡ Branch (branch_rows parent.state.rows)) (leads : Leads parent.state fosterer.page fosterer.state) (foster : fosterer.state.foster ≡ Some f) (enough : row_bytes f ≤ free_bytes parent.state) where
  adopted : (prev prev' : ℕ) → Adopted (adopt_of parent.page prev fosterer.page prev' f) parent.state fosterer.state leads.slot
  adopted prev prev' = may_take parent.state fosterer.state fosterer.page f parent.page prev prev' there.keeps branch there'.keeps foster leads

  -- ---- the condition of asking

  module _ (seen : List Entry) (begins : IsPrefix parent.pass.log seen) (begins' : IsPrefix fosterer.pass.log seen) where
    has_fosterer : (prev prev' : ℕ) (opening : List Record) → opens opening → (h : List Entry) → IsMoment opens seen (claims_of_both parent fosterer) h → HasFosterer (life_log opening h) (adopt_of parent.page prev fosterer.page prev' f) parent.state fosterer.state leads.slot
    has_fosterer prev prev' opening stands h moment = record {
      parent = both.parent_image opens seen parent fosterer there there' begins begins' opening stands h moment;
      fosterer = both.fosterer_image opens seen parent fosterer there there' begins begins' opening stands h moment;
      branch = branch;
      foster = foster;
      slot = leads.pointer;
    }

    follows : (opening : List Record) → opens opening → (h : List Entry) → IsMoment opens seen (claims_of_both parent fosterer) h → (a : Option PageClaim) → IsAskable opening h a (adoption_group parent fosterer f)
    follows opening stands h moment a = elim (cases_lt (length (life_log opening h) + 3) (2 ^ 63)) [
      | inl few ↦
          let seen_now = both.seen_of opens opening h stands moment.consistent in
          let r = adopt_of parent.page parent.lsn fosterer.page fosterer.lsn f in
          let suits = (hand_law opening h).adopt seen_now (omega (arith, few)) r parent.state fosterer.state leads.slot (has_fosterer parent.lsn fosterer.lsn opening stands h moment)
          (both.parent_last opens seen parent fosterer there there' begins begins' opening stands h moment) (both.fosterer_last opens seen parent fosterer there there' begins begins' opening stands h moment) enough in
          subst (λ (l : List Entry). IsAskable opening l a (adoption_group parent fosterer f)) (append-nil h)
          ((asks_law opening h []).plain seen_now.lawful (subst (IsAtRest opening) (sym (append-nil h)) seen_now.rest) a (kinds.Adopt r) refl
          (ap (λ (l : List Entry). head (life_log opening l) parent.page) (append-nil h), ap (λ (l : List Entry). head (life_log opening l) fosterer.page) (append-nil h)) suits)
      | inr many ↦ record { leaf = tt; follows = λ timely room numbers. absurd (omega (arith, numbers, many)); declines = λ lacks. absurd (cc lacks.0) }
    ]

    pub may_ask : MayAsk opens seen (claims_of_both parent fosterer) (adoption_group parent fosterer f)
    may_ask = record {
      group = record {
        few = omega arith;
        kinds = refl;
        spelled = (record { parent = there.number; parent_prev = refl; fosterer = there'.number; fosterer_prev = refl; child = (adopted 0 0).child; key = (adopted 0 0).key }, tt);
        told = refl;
        alone = λ n. refl;
      };
      rights = record {
        pages = subst (λ (q : (Option PageClaim) × (Option PageClaim)). IsTrue (list_all (has_rights None (record { a = q.0; b = q.1; c = None; s = None; m = None })) (kinds.Adopt (adopt_of parent.page parent.lsn fosterer.page fosterer.lsn f) ∷ [])))
            (λ i. (sym there.right i, sym there'.right i)) (both_rights parent.page fosterer.page);
        new = λ n. absurd (cc n);
        owners = (tt, tt);
        speaker = tt;
        maintenance = λ n. absurd (cc n);
      };
      askable = λ opening h stands moment. follows opening stands h moment parent.right;
      timely = λ opening stands. ((seen, prefix_self seen, tt), tt);
    }

  -- ---- both pages behind it

  module _ (ledger sessions : LedgerName) (seen seen' : PassSeen Entry) (begins : IsPrefix parent.pass.log seen.log) (begins' : IsPrefix fosterer.pass.log seen.log) (a a' : Account) (z : Claims) (pos : ℕ)
      (asked : Asked opens ledger sessions (adoption_group parent fosterer f) (Ok (At pos)) (known a seen (claims_of_both parent fosterer)) (known a' seen' z)) where
    abbrev moment : List Entry
    moment = asked.enters.enters.moment

    abbrev r : Record
    r = kinds.Adopt (adopt_of parent.page parent.lsn fosterer.page fosterer.lsn f)

    record_is : (n : Numbers) × (n.child ≡ asked.filled.child) × (asked.now.recs ≡ filled None n r ∷ [])
    record_is = filled_made None asked.filled.child r asked.now.recs asked.filled.recs

    abbrev made : Adopt
    made = adopt_of parent.page record_is.0.page_prev fosterer.page record_is.0.other_prev f

    log_is : (opening : List Record) → life_log opening seen'.log ≡ life_log opening moment ++ kinds.Adopt made ∷ []
    log_is opening =
        ap (life_log opening) (asked.enters.enters.is ∙ ap (λ (rs : List Record). moment ++ (record_entries asked.now.lsn rs ++ [])) record_is.2)
        ∙ longer_log opening moment (Rec asked.now.lsn (kinds.Adopt made) ∷ [])

    entered : (opening : List Record) → opens opening → AdoptEntered (life_log opening moment) made parent.state fosterer.state
    entered opening stands =
        let lawful = lawful_front (life_log opening moment) (kinds.Adopt made) (subst AreLawful (log_is opening) (asked.enters.enters.now.consistent.sound opening stands).lawful) in
        (adopt_enters (life_log opening moment) made parent.state fosterer.state leads.slot).entered lawful.0 (asked.enters.enters.found.consistent.some opening stands)
        (has_fosterer seen.log begins begins' record_is.0.page_prev record_is.0.other_prev opening stands moment asked.enters.enters.found) lawful.1

    parent_there : (opening : List Record) → opens opening → image (life_log opening seen'.log) parent.page ≡ Some (with_row_for f parent.state)
    parent_there opening stands = ap (λ (l : List Record). image l parent.page) (log_is opening) ∙ (entered opening stands).parent

    fosterer_there : (opening : List Record) → opens opening → image (life_log opening seen'.log) fosterer.page ≡ Some (without_child f fosterer.state)
    fosterer_there opening stands = ap (λ (l : List Record). image l fosterer.page) (log_is opening) ∙ (entered opening stands).fosterer

    pub parent_in_hand : (c : PageClaim) → z.a ≡ Some c → page_of z.a ≡ page_of parent.right → AreInRange z
        → IsInHand opens (record { page = parent.page; lsn = c.lsn; state = with_row_for f parent.state; dirty = true; right = Some c; pass = seen' })
    parent_in_hand c is same range = both.back_in_hand opens parent there seen' z.a c (with_row_for f parent.state) is same asked.enters.enters.now.rights.a range.a parent_there ((adopted 0 0).parent_keeps enough)

    pub fosterer_in_hand : (c : PageClaim) → z.b ≡ Some c → page_of z.b ≡ page_of fosterer.right → AreInRange z
        → IsInHand opens (record { page = fosterer.page; lsn = c.lsn; state = without_child f fosterer.state; dirty = true; right = Some c; pass = seen' })
    fosterer_in_hand c is same range = both.back_in_hand opens fosterer there' seen' z.b c (without_child f fosterer.state) is same asked.enters.enters.now.rights.b range.b fosterer_there (adopted 0 0).fosterer_keeps

    pub adoption_entered : {T : Type 0} (done : T) (c c' : PageClaim) → z.a ≡ Some c → z.b ≡ Some c' → SameHolders (claims_of_both parent fosterer) z
        → EntersAdoption opens ledger sessions parent.page fosterer.page f (Ok done) (known a seen (claims_of_both parent fosterer)) (known a' seen' (record { a = Some c; b = Some c'; c = None; s = None; m = None }))
    adoption_entered done c c' is is' holders =
        let made_none : z.c ≡ None = none_mapped (λ (p : PageClaim). p.page) z.c asked.filled.made in
        let unowned : z.s ≡ None = none_mapped (λ (s : SessionClaim). s.session) z.s holders.s in
        let idle : z.m ≡ None = none_mapped (λ (m : MaintClaim). m.number) z.m holders.m in
        let entries_are : record_entries asked.now.lsn asked.now.recs ++ [] ≡ Rec asked.now.lsn (kinds.Adopt made) ∷ [] = ap (λ (rs : List Record). record_entries asked.now.lsn rs ++ []) record_is.2 in
        record {
          lsn = asked.now.lsn;
          prev = record_is.0.page_prev;
          prev' = record_is.0.other_prev;
          enters = subst (λ (q : (List Entry) × Claims). Enters opens ledger sessions (known a seen (claims_of_both parent fosterer)) q.0 (known a' seen' q.1))
              (λ i. (entries_are i, record { a = is i; b = is' i; c = made_none i; s = unowned i; m = idle i })) asked.enters.enters;
        }

-- ---- as the body has them: what it handed in, and what it took from the rights that came back

module _ (opens : List Record → Type 0) (ledger sessions : LedgerName) (parent inside fosterer inside' : Hand) (view : inside ≡ parent) (view' : inside' ≡ fosterer) (there : IsInHand opens inside) (there' : IsInHand opens inside') (f : Foster)
    (seen : PassSeen Entry) (begins : IsPrefix parent.pass.log seen.log) (begins' : IsPrefix fosterer.pass.log seen.log) (branch : parent.state.rows ≡ Branch (branch_rows parent.state.rows)) (leads : Leads parent.state fosterer.page fosterer.state)
    (foster : fosterer.state.foster ≡ Some f) (enough : row_bytes f ≤ free_bytes parent.state) (made : Result Group Memory) (is : IfOk made (λ (g : Group). g ≡ adoption_group inside inside' f))
    (right right' : Option PageClaim) (x y : Claims) (right_is : right ≡ inside.right) (right'_is : right' ≡ inside'.right) (none : x ≡ no_claims) (claims : y ≡ record x { a = right; b = right' }) where
  mine : IsInHand opens parent
  mine = subst (IsInHand opens) view there

  mine' : IsInHand opens fosterer
  mine' = subst (IsInHand opens) view' there'

  all : y ≡ claims_of_both parent fosterer
  all = claims ∙ (λ i. record { a = (right_is ∙ ap (λ (h : Hand). h.right) view) i; b = (right'_is ∙ ap (λ (h : Hand). h.right) view') i; c = (none i).c; s = (none i).s; m = (none i).m })

  group_is : (g : Group) → g ≡ adoption_group inside inside' f → g ≡ adoption_group parent fosterer f
  group_is g e = e ∙ (λ i. adoption_group (view i) (view' i) f)

  pub may_adopt : IfOk made (MayAsk opens seen.log y)
  may_adopt = by made is
    where
      by : (made : Result Group Memory) → IfOk made (λ (g : Group). g ≡ adoption_group inside inside' f) → IfOk made (MayAsk opens seen.log y)
      by (Err m) e = tt
      by (Ok g) e = subst (λ (q : Claims × Group). MayAsk opens seen.log q.0 q.1) (λ i. (sym all i, sym (group_is g e) i)) (may_ask opens parent fosterer f mine mine' branch leads foster enough seen.log begins begins')

  module _ (seen' : PassSeen Entry) (result : Result Entered Fault) (z z' : Claims) (a a' : Account) (asked : AskedIfMade opens ledger sessions made result (known a seen y) (known a' seen' z)) where
    -- it was refused
    pub none_entered : {T : Type 0} (fault : Fault) (c c' : PageClaim) → result ≡ Err fault → KeepsRights result y z → z' ≡ z → z'.a ≡ Some c → z'.b ≡ Some c'
        → EntersAdoption {T = T} opens ledger sessions parent.page fosterer.page f (Err fault) (known a seen (claims_of_both parent fosterer)) (known a' seen' (record { a = Some c; b = Some c'; c = None; s = None; m = None }))
    none_entered fault c c' result_is keeps back took_is took'_is = record { lsn = 0; prev = 0; prev' = 0; enters = by made is asked }
      where
        same : z ≡ claims_of_both parent fosterer
        same = rights_same fault y z (subst (λ (r : Result Entered Fault). KeepsRights r y z) result_is keeps) (ap (λ (w : Claims). w.s) all) ∙ all

        after : z ≡ record { a = Some c; b = Some c'; c = None; s = None; m = None }
        after =
            let a_is : z.a ≡ Some c = sym (ap (λ (w : Claims). w.a) back) ∙ took_is in
            let b_is : z.b ≡ Some c' = sym (ap (λ (w : Claims). w.b) back) ∙ took'_is in
            λ i. record { a = a_is i; b = b_is i; c = (same i).c; s = (same i).s; m = (same i).m }

        by : (made : Result Group Memory) → IfOk made (λ (g : Group). g ≡ adoption_group inside inside' f) → AskedIfMade opens ledger sessions made result (known a seen y) (known a' seen' z)
            → Enters opens ledger sessions (known a seen (claims_of_both parent fosterer)) [] (known a' seen' (record { a = Some c; b = Some c'; c = None; s = None; m = None }))
        by (Err m) e k = subst (λ (q : Claims × Claims). Enters opens ledger sessions (known a seen q.0) [] (known a' seen' q.1)) (λ i. (all i, after i)) k.1
        by (Ok g) e k =
            let told : answered k.now.lsn k.now.recs g.said result ≡ [] = (λ i. answered k.now.lsn k.now.recs ((e i).said) (result_is i)) ∙ none_told k.now.lsn k.now.recs fault in
            subst (λ (q : (List Entry) × Claims × Claims). Enters opens ledger sessions (known a seen q.1) q.0 (known a' seen' q.2)) (λ i. (told i, all i, after i)) k.enters.enters

    module _ (pos : ℕ) (result_is : result ≡ Ok (At pos)) (holders : SameHolders y z) (back : z' ≡ z) (range : AreInRange z') (c c' : PageClaim) (took_is : z'.a ≡ Some c) (took'_is : z'.b ≡ Some c') where
      asked' : Asked opens ledger sessions (adoption_group parent fosterer f) (Ok (At pos)) (known a seen (claims_of_both parent fosterer)) (known a' seen' z)
      asked' = by made is asked
        where
          by : (made : Result Group Memory) → IfOk made (λ (g : Group). g ≡ adoption_group inside inside' f) → AskedIfMade opens ledger sessions made result (known a seen y) (known a' seen' z)
              → Asked opens ledger sessions (adoption_group parent fosterer f) (Ok (At pos)) (known a seen (claims_of_both parent fosterer)) (known a' seen' z)
          by (Err m) e k = absurd (cc (sym k.0 ∙ result_is))
          by (Ok g) e k = subst (λ (q : Group × (Result Entered Fault) × Claims). Asked opens ledger sessions q.0 q.1 (known a seen q.2) (known a' seen' z)) (λ i. (group_is g e i, result_is i, all i)) k

      same : SameHolders (claims_of_both parent fosterer) z
      same = subst (λ (w : Claims). SameHolders w z) all holders

      old_is : z.a ≡ Some c
      old_is = sym (ap (λ (w : Claims). w.a) back) ∙ took_is

      other_is : z.b ≡ Some c'
      other_is = sym (ap (λ (w : Claims). w.b) back) ∙ took'_is

      pub parent_settled : (lsn : ℕ) (state : PageState) (pass : PassSeen Entry) → lsn ≡ c.lsn → state ≡ with_row_for f inside.state → pass ≡ seen' → IsInHand opens (record { page = inside.page; lsn = lsn; state = state; dirty = true; right = Some c; pass = pass })
      parent_settled lsn state pass lsn_is state_is pass_is =
          let here = parent_in_hand opens parent fosterer f mine mine' branch leads foster enough ledger sessions seen seen' begins begins' a a' z pos asked' c old_is same.a (subst AreInRange back range) in
          let made_is : state ≡ with_row_for f parent.state = state_is ∙ ap (λ (h : Hand). with_row_for f h.state) view in
          subst (IsInHand opens) (λ i. record { page = (sym view i).page; lsn = sym lsn_is i; state = sym made_is i; dirty = true; right = Some c; pass = sym pass_is i }) here

      pub fosterer_settled : (lsn : ℕ) (high : Option (List ℕ)) (pass : PassSeen Entry) → lsn ≡ c'.lsn → high ≡ Some f.key → pass ≡ seen'
          → IsInHand opens (record { page = inside'.page; lsn = lsn; state = record inside'.state { foster = None; high = high }; dirty = true; right = Some c'; pass = pass })
      fosterer_settled lsn high pass lsn_is high_is pass_is =
          let here = fosterer_in_hand opens parent fosterer f mine mine' branch leads foster enough ledger sessions seen seen' begins begins' a a' z pos asked' c' other_is same.b (subst AreInRange back range) in
          subst (IsInHand opens) (λ i. record { page = (sym view' i).page; lsn = sym lsn_is i; state = record ((sym view' i).state) { foster = None; high = sym high_is i }; dirty = true; right = Some c'; pass = sym pass_is i }) here

      pub adopted_entered : {T : Type 0} (done : T) (pass : PassSeen Entry) → pass ≡ seen'
          → EntersAdoption opens ledger sessions parent.page fosterer.page f (Ok done) (known a seen (claims_of_both parent fosterer)) (known a' pass (record { a = Some c; b = Some c'; c = None; s = None; m = None }))
      adopted_entered {T = T} done pass pass_is =
          subst (λ (q : PassSeen Entry). EntersAdoption {T = T} opens ledger sessions parent.page fosterer.page f (Ok done) (known a seen (claims_of_both parent fosterer)) (known a' q (record { a = Some c; b = Some c'; c = None; s = None; m = None }))) (sym pass_is)
          (adoption_entered opens parent fosterer f mine mine' branch leads foster enough ledger sessions seen seen' begins begins' a a' z pos asked' done c c' old_is other_is same)
