-- A change of a leaf's row: what was asked, and the leaf behind it.
use Rattle.std.proofs.Common.{◌≡◌, ℕ, ◌≤◌, List, [], ◌∷◌, Option, Some, None, Result, Ok, Err, true, sym, ap, subst, ◌∙◌, refl}
use Rattle.std.specs.Prelude.{IfOk, IfErr}
use mathlib.Core.List.{IsPrefix}
use Rattle.books.specs.Rights.{PageClaim, SessionClaim, MaintClaim}
use Rattle.front.specs.Seen.{PassSeen}
use Rattle.store_model.specs.declared.fault.Fault.{Fault}
use Rattle.store_model.specs.declared.fault.Fault.TheVariants as faults
use Rattle.store_model.specs.declared.fault.Memory.{Memory}
use Rattle.wal_record.specs.State.{KeepsState, leaf_rows, row_of, state_size, page_room}
use Rattle.wal_record.specs.Images.{with_value, IsLeafOf}
use Rattle.wal_record.specs.declared.page.PageState.{PageState}
use Rattle.wal_record.specs.declared.page.LeafRow.{LeafRow}
use Rattle.wal_record.specs.declared.page.Rows.TheVariants.{Leaf}
use Rattle.wal_record.specs.declared.record.Record.{Record}
use Rattle.wal_record.specs.declared.entry.Entry.{Entry}
use Rattle.page_rows.specs.Rows.{IsSpot}
use Rattle.page_rows.specs.Redo.{placed}
use Rattle.page_rows.specs.declared.spot.Spot.{Spot}
use Rattle.page_rows.proofs.Changes.{placed_is}
use Rattle.page_rows.proofs.Keeping.{value_keeps}
use Rattle.page_ops.specs.Claims.{Claims, AreInRange, no_claims}
use Rattle.page_ops.specs.Groups.{AreFilled, made_by}
use Rattle.page_ops.specs.Hands.{Hand, IsInHand}
use Rattle.page_ops.specs.Names.{LedgerName}
use Rattle.page_ops.specs.Outcomes.{IsFilledIn, KeepsRights, OnEntered, IsAnswer, IsFull, SameHolders, answered, new_place, page_of}
use Rattle.page_ops.specs.Seeing.{Account, known}
use Rattle.page_ops.specs.declared.group.Group.{Group}
use Rattle.page_ops.specs.declared.outcome.Entered.{Entered}
use Rattle.page_ops.specs.declared.outcome.Entered.TheVariants.{At, NoRoom, Late}
use Rattle.smo.specs.Asked.{MayAsk, Asked, AskedIfMade}
use Rattle.smo.specs.Settled.{claims_of}
use Rattle.smo.proofs.MadePages.{none_mapped}
use Rattle.smo.proofs.Settling.{in_hand}
use Rattle.leaf_writes.specs.Changes.{IsSpelledChange, UnlessEntered, group_by, record_by}
use Rattle.leaf_writes.specs.MayChange.{MayBy}
use Rattle.leaf_writes.specs.Owners.{KeepsOwner}
use Rattle.leaf_writes.specs.declared.change.How.{How}
use Rattle.leaf_writes.proofs.Handed as handed
use Rattle.leaf_writes.proofs.Owners.{is_quiet, keeps_owner, leave_answered, quiet_change}
use Rattle.store_model.proofs.Bools.{and_true}
use Rattle.leaf_writes.proofs.EachKind.{applies, gives_of, names_page, none_made}
use Rattle.leaf_writes.proofs.MayAsk.{may_one}

-- ---- the rows with the key's row at its spot

pub row_in : (key : List ℕ) (new : Option (List ℕ)) (s : PageState) (spot : Spot) (rows : List LeafRow) → KeepsState s → IsLeafOf key s → IsSpot key s.rows spot → rows ≡ placed (row_of key new) spot (leaf_rows s.rows) → ◌≡◌ {A = PageState} (record s { rows = Leaf rows }) (with_value key new s)
row_in key new s spot rows keeps at found is = ap (λ (rs : List LeafRow). record s { rows = Leaf rs }) is ∙ placed_is key s at keeps new spot found

pub row_put : (opens : List Record → Type 0) (hand inside : Hand) (key : List ℕ) (new : Option (List ℕ)) (spot : Spot) (rows : List LeafRow) → inside ≡ hand → IsInHand opens inside → IsLeafOf key hand.state → IsSpot key inside.state.rows spot
    → rows ≡ placed (row_of key new) spot (leaf_rows inside.state.rows) → with_value key new hand.state ≡ record inside.state { rows = Leaf rows }
row_put opens hand inside key new spot rows view there at found is =
    let here : IsLeafOf key inside.state = subst (λ (h : Hand). IsLeafOf key h.state) (sym view) at in
    ap (λ (h : Hand). with_value key new h.state) (sym view) ∙ sym (placed_is key inside.state here there.keeps new spot found) ∙ ap (λ (rs : List LeafRow). record inside.state { rows = Leaf rs }) (sym is)

-- ---- the rights that came back

-- a group that makes no page leaves the place of the right to it empty
no_new : (result : Result Entered Fault) (g now : Group) (y z : Claims) → made_by g.recs ≡ None → y.c ≡ None → KeepsRights result y z → OnEntered result (IsFilledIn g now y z) → z.c ≡ None
no_new (Ok (At pos)) g now y z one none keeps filled =
    none_mapped (λ (p : PageClaim). p.page) z.c (filled.made ∙ ap (λ (o : Option ℕ). new_place o filled.child (page_of y.c)) one ∙ ap page_of none)
no_new (Ok NoRoom) g now y z one none keeps filled = ap (λ (w : Claims). w.c) keeps ∙ none
no_new (Ok (Late pos)) g now y z one none keeps filled = ap (λ (w : Claims). w.c) keeps ∙ none
no_new (Err (faults.Full pages pending at)) g now y z one none keeps filled = ap (λ (w : Claims). w.c) keeps.0 ∙ none
no_new (Err fault) g now y z one none keeps filled = ap (λ (w : Claims). w.c) keeps ∙ none

-- its records, filled in
pub filled_of : (result : Result Entered Fault) (g now : Group) (x y : Claims) → OnEntered result (IsFilledIn g now x y) → (child : ℕ) × OnEntered result (AreFilled child g.recs now.recs)
filled_of (Ok (At pos)) g now x y h = (h.child, h.recs)
filled_of (Ok NoRoom) g now x y h = (0, tt)
filled_of (Ok (Late pos)) g now x y h = (0, tt)
filled_of (Err fault) g now x y h = (0, tt)

-- ---- as the body has it

module _ (opens : List Record → Type 0) (ledger sessions : LedgerName) (hand inside : Hand) (view : inside ≡ hand) (there : IsInHand opens inside) (seen : PassSeen Entry) (begins : IsPrefix hand.pass.log seen.log) (how : How) (tx : ℕ) (key : List ℕ) (new : Option (List ℕ))
    (at : IsLeafOf key hand.state) (fits : state_size (with_value key new hand.state) ≤ page_room) (owner : Option SessionClaim) (may : MayBy how opens seen.log hand.state tx key new owner) (words : IsSpelledChange how key new)
    (made : Result Group Memory) (is : IfOk made (λ (g : Group). g ≡ group_by how tx key new owner inside.page))
    (right : Option PageClaim) (owned : Option SessionClaim) (x y : Claims) (right_is : right ≡ inside.right) (owned_is : owned ≡ owner) (none : x ≡ no_claims) (claims : y ≡ record x { a = right; s = owned }) where
  abbrev of_hand : Hand → Group
  of_hand h = group_by how tx key new owner h.page

  abbrev group : Group
  group = of_hand hand

  mine : IsInHand opens hand
  mine = subst (IsInHand opens) view there

  pub may_change : IfOk made (MayAsk opens seen.log y)
  may_change = handed.may_here opens ledger sessions of_hand hand inside view owner seen made is right owned x y right_is owned_is none claims (may_one opens seen.log hand mine begins tx key new at how owner may words fits)

  module _ (seen' : PassSeen Entry) (a a' : Account) (z : Claims) (result : Result Entered Fault) (asked : AskedIfMade opens ledger sessions made result (known a seen y) (known a' seen' z)) (keeps : KeepsRights result y z) (holders : SameHolders y z) where
    here : Asked opens ledger sessions group result (known a seen (claims_of hand owner)) (known a' seen' z)
    here = handed.asked_here opens ledger sessions of_hand hand inside view owner seen made is right owned x y right_is owned_is none claims seen' a a' z result asked

    same : SameHolders (claims_of hand owner) z
    same = handed.same_here opens ledger sessions of_hand hand inside view owner seen made is right owned x y right_is owned_is none claims seen' a a' z result asked holders

    kept : KeepsRights result (claims_of hand owner) z
    kept = handed.keeps_here opens ledger sessions of_hand hand inside view owner seen made is right owned x y right_is owned_is none claims seen' a a' z result asked keeps

    back : (right' : Option PageClaim) (owned' : Option SessionClaim) → right' ≡ z.a → owned' ≡ z.s → z ≡ record { a = right'; b = None; c = None; s = owned'; m = None }
    back right' owned' right'_is owned'_is =
        let b = none_mapped (λ (p : PageClaim). p.page) z.b same.b in
        let c = no_new result group here.now (claims_of hand owner) z (none_made how tx hand.page key new) refl kept here.filled in
        let m = none_mapped (λ (m : MaintClaim). m.number) z.m same.m in
        λ i. record { a = sym right'_is i; b = b i; c = c i; s = sym owned'_is i; m = m i }

    pub change_asked : (right' : Option PageClaim) (owned' : Option SessionClaim) (result' : Result Entered Fault) → right' ≡ z.a → owned' ≡ z.s → result ≡ result'
        → Asked opens ledger sessions group result' (known a seen (claims_of hand owner)) (known a' seen' (record { a = right'; b = None; c = None; s = owned'; m = None }))
    change_asked right' owned' result' right'_is owned'_is result_is =
        subst (λ (q : (Result Entered Fault) × Claims). Asked opens ledger sessions group q.0 (known a seen (claims_of hand owner)) (known a' seen' q.1)) (λ i. (result_is i, back right' owned' right'_is owned'_is i)) here

    pub change_owner : (owned' : Option SessionClaim) → owned' ≡ z.s → KeepsOwner result owner owned'
    change_owner owned' owned'_is =
        let quiet = and_true (is_quiet (record_by how tx hand.page key new)) true (quiet_change how tx hand.page key new) refl in
        let filled = filled_of result group here.now (claims_of hand owner) z here.filled in
        subst (KeepsOwner result owner) (sym owned'_is)
        (keeps_owner opens ledger sessions (answered here.now.lsn here.now.recs group.said result) (known a seen (claims_of hand owner)) (known a' seen' z) result here.enters.enters (leave_answered filled.0 group here.now result quiet filled.1) same.s kept)

    pub change_answer : IfOk made (λ (g : Group). IfOk result (IsAnswer opens seen'.log g)) → IfOk result (IsAnswer opens seen'.log group)
    change_answer = handed.answer_here opens ledger sessions of_hand hand inside view owner seen made is right owned x y right_is owned_is none claims seen' a a' z result asked

    pub change_full : IfOk made (λ (g : Group). IfErr result (IsFull opens seen'.log g)) → IfErr result (IsFull opens seen'.log group)
    change_full = handed.full_here opens ledger sessions of_hand hand inside view owner seen made is right owned x y right_is owned_is none claims seen' a a' z result asked

    pub change_settled : UnlessEntered result ⊥ → (z' : Claims) → z' ≡ z → AreInRange z' → (took : Option PageClaim) (c : PageClaim) → took ≡ z'.a → took ≡ Some c → (lsn : ℕ) (state : PageState) (pass : PassSeen Entry) → lsn ≡ c.lsn
        → with_value key new hand.state ≡ state → pass ≡ seen'
        → IsInHand opens (record { page = inside.page; lsn = lsn; state = state; dirty = true; right = Some c; pass = pass })
    change_settled entered z' view' range took c took_is took_some lsn state pass lsn_is state_is pass_is =
        let r = record_by how tx hand.page key new in
        let at_pos = handed.at_of result entered in
        let ours : Asked opens ledger sessions group (Ok (At at_pos.0)) (known a seen (claims_of hand owner)) (known a' seen' z) =
        subst (λ (q : Result Entered Fault). Asked opens ledger sessions group q (known a seen (claims_of hand owner)) (known a' seen' z)) at_pos.1 here in
        let some : z.a ≡ Some c = sym (ap (λ (w : Claims). w.a) view') ∙ sym took_is ∙ took_some in
        let gives = gives_of how opens seen.log hand.state tx key new owner may in
        let settled = in_hand opens ledger sessions hand owner mine seen seen' a a' z group r refl at_pos.0 begins ours (with_value key new hand.state) true c
        (λ n. names_page how tx hand.page key new (made_by (r ∷ [])) (none_made how tx hand.page key new) n)
        (λ n. applies how tx hand.page key new (made_by (r ∷ [])) (none_made how tx hand.page key new) n hand.state gives)
        (value_keeps key new words.key words.new hand.state at mine.keeps fits) some same.a (subst AreInRange view' range) in
        subst (IsInHand opens) (λ i. record { page = (sym view i).page; lsn = sym lsn_is i; state = state_is i; dirty = true; right = Some c; pass = sym pass_is i }) settled

    -- where it isn't entered, the leaf is as before
    pub change_unchanged : OnEntered result ⊥ → (r : PageClaim) (lsn : ℕ) (state : PageState) → Some r ≡ z.a → lsn ≡ r.lsn → state ≡ inside.state
        → ◌≡◌ {A = Hand} (record { page = inside.page; lsn = lsn; state = state; dirty = inside.dirty; right = Some r; pass = inside.pass }) inside
    change_unchanged = handed.unchanged opens ledger sessions of_hand hand inside view owner seen made is right owned x y right_is owned_is none claims seen' a a' z result asked there keeps
