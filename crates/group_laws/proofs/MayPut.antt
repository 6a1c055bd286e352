-- What the caller of `enter` knows of a put is what the journal asks.
use Rattle.std.proofs.Common.{◌≡◌, ℕ, List, [], Option, Some, true, refl, sym, ap, ◌∙◌, subst, arith}
use Rattle.std.specs.Prelude.{◌≤◌, ◌<◌, Result, Err}
use Rattle.std.specs.List.{list_any}
use Rattle.std.proofs.lemmas.Bool.Decides.{nat_tests}
use mathlib.Core.List.{IsPrefix}
use Rattle.books.specs.Rights.{PageClaim, SessionClaim}
use Rattle.wal_record.specs.State.{live, leaf_rows, state_size, page_room}
use Rattle.wal_record.specs.Rules.{KeepsWrite, is_number}
use Rattle.wal_record.specs.Images.{with_value, IsLeafOf}
use Rattle.wal_record.specs.History.{phase, Live}
use Rattle.wal_record.specs.Locks.{taken_locks, covers_write}
use Rattle.wal_record.specs.declared.record.Record.{Record}
use Rattle.wal_record.specs.declared.entry.Entry.{Entry}
use Rattle.page_ops.specs.Claims.{Claims, SessionAgrees, no_claims}
use Rattle.page_ops.specs.Hands.{Hand, IsInHand}
use Rattle.page_ops.specs.Names.{LedgerName}
use Rattle.page_ops.specs.Outcomes.{EntersGroup}
use Rattle.page_ops.specs.Seeing.{Account, known, Enters, IsMoment}
use Rattle.page_ops.specs.declared.outcome.Entered.{Entered}
use Rattle.front.specs.Seen.{PassSeen}
use Rattle.store_model.specs.declared.fault.Fault.{Fault}
use Rattle.store_model.specs.declared.fault.Fault.TheVariants as faults
use Rattle.page_ops.specs.Asking.{IsAskable}
use Rattle.page_ops.specs.declared.group.Group.{Group}
use Rattle.group_laws.specs.Puts.{put_write, put_group, put_of, claims_of, EntersPut}
use Rattle.group_laws.proofs.Follows.{Ready, page_and_session}
use Rattle.group_laws.proofs.Writes.{put_follows}

above_none : (n : ℕ) → is_number n ≡ true → 0 < n
above_none n h = grind (arith, nat_tests, h)

pub may_put : (opens : List Record → Type 0) (seen : List Entry) (hand inside : Hand) (s : SessionClaim) (x y : Claims) (g : Group) (number tx : ℕ) (key : List ℕ) (old : Option (List ℕ)) (value : List ℕ)
    → inside ≡ hand → IsInHand opens inside → IsPrefix hand.pass.log seen → SessionAgrees seen s → is_number s.tx ≡ true → phase seen s.tx ≡ Live → list_any (covers_write key) (taken_locks seen s.tx) ≡ true
    → IsLeafOf key hand.state → old ≡ live (leaf_rows hand.state.rows) key → state_size (with_value key (Some value) hand.state) ≤ page_room
    → x ≡ no_claims → y ≡ record x { a = inside.right; s = Some s } → number ≡ s.session → tx ≡ s.tx → KeepsWrite (put_write tx inside.page key old value) → g ≡ put_group number tx inside.page key old value
    → (opening : List Record) (h : List Entry) → opens opening → IsMoment opens seen y h → IsAskable opening h inside.right g
may_put opens seen hand inside s x y g number tx key old value view there begins agrees active live_then locked leaf was fits none claims number_is tx_is spelled is opening h stands moment =
    let mine : IsInHand opens hand = subst (IsInHand opens) view there in
    let right : inside.right ≡ Some (record { page = hand.page; lsn = hand.lsn }) = ap (λ (z : Hand). z.right) view ∙ mine.right in
    let all : y ≡ page_and_session hand s = claims ∙ (λ i. record { a = right i; b = (none i).b; c = (none i).c; s = Some s; m = (none i).m }) in
    let group : g ≡ put_group s.session s.tx hand.page key old value = is ∙ (λ i. put_group (number_is i) (tx_is i) ((view i).page) key old value) in
    let rules : KeepsWrite (put_write s.tx hand.page key old value) = subst (λ (z : ℕ × ℕ). KeepsWrite (put_write z.0 z.1 key old value)) (λ i. (tx_is i, (view i).page)) spelled in
    let ready : Ready opens seen hand s = record { there = mine; begins = begins; agrees = agrees; active = above_none s.tx active } in
    subst (λ (z : Option PageClaim × Group). IsAskable opening h z.0 z.1) (λ i. (sym right i, sym group i))
    (put_follows opens seen hand s ready opening stands h (subst (λ (z : Claims). IsMoment opens seen z h) all moment) live_then (put_write s.tx hand.page key old value) value refl refl leaf was refl rules fits locked 0)

-- ---- what was asked

module _ (hand inside : Hand) (s : SessionClaim) (x y : Claims) (g : Group) (number tx : ℕ) (key : List ℕ) (old : Option (List ℕ)) (value : List ℕ)
    (view : inside ≡ hand) (none : x ≡ no_claims) (claims : y ≡ record x { a = inside.right; s = Some s }) (number_is : number ≡ s.session) (tx_is : tx ≡ s.tx) (is : g ≡ put_group number tx inside.page key old value) where
  pub asked_is : g ≡ put_of s hand key old value
  asked_is = is ∙ (λ i. put_group (number_is i) (tx_is i) ((view i).page) key old value)

  pub claims_are : y ≡ claims_of hand s
  claims_are = claims ∙ (λ i. record { a = (view i).right; b = (none i).b; c = (none i).c; s = Some s; m = (none i).m })

  pub put_entered : (opens : List Record → Type 0) (entries sessions : LedgerName) (now : Group) (result : Result Entered Fault) (a a' : Account) (seen seen' : PassSeen Entry) (z : Claims)
      → EntersGroup opens entries sessions g now result (known a seen y) (known a' seen' z)
      → EntersPut opens entries sessions (put_of s hand key old value) result (known a seen (claims_of hand s)) (known a' seen' z)
  put_entered opens entries sessions now result a a' seen seen' z e =
      record { now = now; enters = subst (λ (w : Group × Claims). EntersGroup opens entries sessions w.0 now result (known a seen w.1) (known a' seen' z)) (λ i. (asked_is i, claims_are i)) e }

-- nothing is asked for want of memory
pub put_unasked : (opens : List Record → Type 0) (entries sessions : LedgerName) (asked : Group) (hand inside : Hand) (s : SessionClaim) (x y z : Claims) (a a' : Account) (seen seen' : PassSeen Entry)
    → inside ≡ hand → x ≡ no_claims → y ≡ record x { a = inside.right; s = Some s } → Enters opens entries sessions (known a seen y) [] (known a' seen' z)
    → EntersPut opens entries sessions asked (Err faults.Memory) (known a seen (claims_of hand s)) (known a' seen' z)
put_unasked opens entries sessions asked hand inside s x y z a a' seen seen' view none claims e =
    let all : y ≡ claims_of hand s = claims ∙ (λ i. record { a = (view i).right; b = (none i).b; c = (none i).c; s = Some s; m = (none i).m }) in
    record { now = asked; enters = record { enters = subst (λ (w : Claims). Enters opens entries sessions (known a seen w) [] (known a' seen' z)) all e; room = tt } }
