-- A group that was made of a leaf in hand and handed to the journal with its right and that of a session, as a body has it.
use Rattle.std.proofs.Common.{◌≡◌, ℕ, List, Option, Some, Result, Ok, Err, sym, ap, subst, ◌∙◌, refl}
use Rattle.std.specs.Prelude.{IfOk, IfErr}
use Rattle.std.specs.Option.{option_map_or}
use Rattle.books.specs.Rights.{PageClaim, SessionClaim}
use Rattle.front.specs.Seen.{PassSeen}
use Rattle.store_model.specs.declared.fault.Fault.{Fault}
use Rattle.store_model.specs.declared.fault.Fault.TheVariants as faults
use Rattle.store_model.specs.declared.fault.Memory.{Memory}
use Rattle.wal_record.specs.declared.page.PageState.{PageState}
use Rattle.wal_record.specs.declared.record.Record.{Record}
use Rattle.wal_record.specs.declared.entry.Entry.{Entry}
use Rattle.page_ops.specs.Claims.{Claims, no_claims}
use Rattle.page_ops.specs.Hands.{Hand, IsInHand}
use Rattle.page_ops.specs.Names.{LedgerName}
use Rattle.page_ops.specs.Outcomes.{IsAnswer, IsFull, KeepsRights, OnEntered, SameHolders}
use Rattle.page_ops.specs.Seeing.{Account, known}
use Rattle.page_ops.specs.declared.group.Group.{Group}
use Rattle.page_ops.specs.declared.outcome.Entered.{Entered}
use Rattle.page_ops.specs.declared.outcome.Entered.TheVariants.{At, NoRoom, Late}
use Rattle.smo.specs.Asked.{MayAsk, Asked, AskedIfMade}
use Rattle.smo.specs.Settled.{claims_of}
use Rattle.leaf_writes.specs.Changes.{UnlessEntered}

-- where the group isn't entered the rights to pages are as they were
pub record SamePages (y z : Claims) : Type 0 where
  pub a : z.a ≡ y.a
  pub b : z.b ≡ y.b
  pub c : z.c ≡ y.c
  pub m : z.m ≡ y.m

same_pages : (y z : Claims) → z ≡ y → SamePages y z
same_pages y z e = record { a = ap (λ (w : Claims). w.a) e; b = ap (λ (w : Claims). w.b) e; c = ap (λ (w : Claims). w.c) e; m = ap (λ (w : Claims). w.m) e }

pub kept_pages : (result : Result Entered Fault) (y z : Claims) → KeepsRights result y z → UnlessEntered result (SamePages y z)
kept_pages (Ok (At pos)) y z k = tt
kept_pages (Ok NoRoom) y z k = same_pages y z k
kept_pages (Ok (Late pos)) y z k = same_pages y z k
kept_pages (Err (faults.Full pages pending at)) y z k =
    record { a = ap (λ (w : Claims). w.a) k.0; b = ap (λ (w : Claims). w.b) k.0; c = ap (λ (w : Claims). w.c) k.0; m = ap (λ (w : Claims). w.m) k.0 }
kept_pages (Err fault) y z k = same_pages y z k

-- it was entered
pub at_of : (result : Result Entered Fault) → UnlessEntered result ⊥ → (pos : ℕ) × (result ≡ Ok (At pos))
at_of (Ok (At pos)) e = (pos, refl)
at_of (Ok NoRoom) e = absurd e
at_of (Ok (Late pos)) e = absurd e
at_of (Err fault) e = absurd e

-- or it wasn't
pub given : (result : Result Entered Fault) (P : Type 0) → OnEntered result ⊥ → UnlessEntered result P → P
given (Ok (At pos)) P n p = absurd n
given (Ok NoRoom) P n p = p
given (Ok (Late pos)) P n p = p
given (Err fault) P n p = p

pub unless_of : (result : Result Entered Fault) (P : Type 0) → P → UnlessEntered result P
unless_of (Ok (At pos)) P p = tt
unless_of (Ok NoRoom) P p = p
unless_of (Ok (Late pos)) P p = p
unless_of (Err fault) P p = p

pub on_none : (result : Result Entered Fault) (P : Type 0) → OnEntered result ⊥ → OnEntered result P
on_none (Ok (At pos)) P n = absurd n
on_none (Ok NoRoom) P n = tt
on_none (Ok (Late pos)) P n = tt
on_none (Err fault) P n = tt

pub on_all : (result : Result Entered Fault) (P : Type 0) → P → OnEntered result P
on_all (Ok (At pos)) P p = p
on_all (Ok NoRoom) P p = tt
on_all (Ok (Late pos)) P p = tt
on_all (Err fault) P p = tt

module _ (opens : List Record → Type 0) (ledger sessions : LedgerName) (group : Hand → Group) (hand inside : Hand) (view : inside ≡ hand) (owner : Option SessionClaim) (seen : PassSeen Entry) (made : Result Group Memory) (is : IfOk made (λ (g : Group). g ≡ group inside))
    (right : Option PageClaim) (owned : Option SessionClaim) (x y : Claims) (right_is : right ≡ inside.right) (owned_is : owned ≡ owner) (none : x ≡ no_claims) (claims : y ≡ record x { a = right; s = owned }) where
  pub all : y ≡ claims_of hand owner
  all = claims ∙ (λ i. record { a = (right_is ∙ ap (λ (h : Hand). h.right) view) i; b = (none i).b; c = (none i).c; s = owned_is i; m = (none i).m })

  pub may_here : MayAsk opens seen.log (claims_of hand owner) (group hand) → IfOk made (MayAsk opens seen.log y)
  may_here may = by made is
    where
      by : (made : Result Group Memory) → IfOk made (λ (g : Group). g ≡ group inside) → IfOk made (MayAsk opens seen.log y)
      by (Err m) e = tt
      by (Ok g) e = subst (λ (q : Claims × Group). MayAsk opens seen.log q.0 q.1) (λ i. (sym all i, sym (e ∙ ap group view) i)) may

  module _ (seen' : PassSeen Entry) (a a' : Account) (z : Claims) (result : Result Entered Fault) (asked : AskedIfMade opens ledger sessions made result (known a seen y) (known a' seen' z)) where
    pub asked_here : Asked opens ledger sessions (group hand) result (known a seen (claims_of hand owner)) (known a' seen' z)
    asked_here = by made is asked
      where
        by : (made : Result Group Memory) → IfOk made (λ (g : Group). g ≡ group inside) → AskedIfMade opens ledger sessions made result (known a seen y) (known a' seen' z)
            → Asked opens ledger sessions (group hand) result (known a seen (claims_of hand owner)) (known a' seen' z)
        by (Ok g) e k = subst (λ (q : Group × Claims). Asked opens ledger sessions q.0 result (known a seen q.1) (known a' seen' z)) (λ i. ((e ∙ ap group view) i, all i)) k
        by (Err m) e k =
            subst (λ (q : (Result Entered Fault) × Claims). Asked opens ledger sessions (group hand) q.0 (known a seen q.1) (known a' seen' z)) (λ i. (sym k.0 i, all i))
            (record { now = group hand; enters = record { enters = k.1; room = tt }; filled = tt })

    pub answer_here : IfOk made (λ (g : Group). IfOk result (IsAnswer opens seen'.log g)) → IfOk result (IsAnswer opens seen'.log (group hand))
    answer_here = by made is asked
      where
        by : (made : Result Group Memory) → IfOk made (λ (g : Group). g ≡ group inside) → AskedIfMade opens ledger sessions made result (known a seen y) (known a' seen' z)
            → IfOk made (λ (g : Group). IfOk result (IsAnswer opens seen'.log g)) → IfOk result (IsAnswer opens seen'.log (group hand))
        by (Ok g) e k h = subst (λ (q : Group). IfOk result (IsAnswer opens seen'.log q)) (e ∙ ap group view) h
        by (Err m) e k h = subst (λ (r : Result Entered Fault). IfOk r (IsAnswer opens seen'.log (group hand))) (sym k.0) tt

    pub full_here : IfOk made (λ (g : Group). IfErr result (IsFull opens seen'.log g)) → IfErr result (IsFull opens seen'.log (group hand))
    full_here = by made is asked
      where
        by : (made : Result Group Memory) → IfOk made (λ (g : Group). g ≡ group inside) → AskedIfMade opens ledger sessions made result (known a seen y) (known a' seen' z)
            → IfOk made (λ (g : Group). IfErr result (IsFull opens seen'.log g)) → IfErr result (IsFull opens seen'.log (group hand))
        by (Ok g) e k h = subst (λ (q : Group). IfErr result (IsFull opens seen'.log q)) (e ∙ ap group view) h
        by (Err m) e k h = subst (λ (r : Result Entered Fault). IfErr r (IsFull opens seen'.log (group hand))) (sym k.0) tt

    pub same_here : SameHolders y z → SameHolders (claims_of hand owner) z
    same_here holders = subst (λ (w : Claims). SameHolders w z) all holders

    pub keeps_here : KeepsRights result y z → KeepsRights result (claims_of hand owner) z
    keeps_here keeps = subst (λ (w : Claims). KeepsRights result w z) all keeps

    -- where it isn't entered, the page is in hand as before
    pub unchanged : IsInHand opens inside → KeepsRights result y z → OnEntered result ⊥ → (r : PageClaim) (lsn : ℕ) (state : PageState) → Some r ≡ z.a → lsn ≡ r.lsn → state ≡ inside.state
        → ◌≡◌ {A = Hand} (record { page = inside.page; lsn = lsn; state = state; dirty = inside.dirty; right = Some r; pass = inside.pass }) inside
    unchanged there keeps n r lsn state r_is lsn_is state_is =
        let same : Some r ≡ inside.right = r_is ∙ (given result (SamePages y z) n (kept_pages result y z keeps)).a ∙ ap (λ (w : Claims). w.a) claims ∙ right_is in
        let number : lsn ≡ inside.lsn = lsn_is ∙ ap (λ (o : Option PageClaim). option_map_or (λ (p : PageClaim). p.lsn) o 0) (same ∙ there.right) in
        λ i. record { page = inside.page; lsn = number i; state = state_is i; dirty = inside.dirty; right = same i; pass = inside.pass }
