-- A lock asked for, and losers in the way of it.
use Rattle.std.proofs.Common.{◌≡◌, ℕ, ◌+◌, ◌<◌, List, [], ◌∷◌, ◌++◌, Err, refl, sym, ap, subst, ◌∙◌, arith}
use Rattle.books.specs.Rights.{SessionClaim}
use Rattle.front.specs.Seen.{PassSeen}
use Rattle.store_model.specs.Range.{Interval}
use Rattle.store_model.specs.declared.fault.Fault.{Fault}
use Rattle.store_model.specs.declared.fault.Fault.TheVariants as faults
use Rattle.store_model.specs.declared.range.Mode.{Mode}
use Rattle.wal_record.specs.History.{life_log}
use Rattle.wal_record.specs.Legal.{held}
use Rattle.wal_record.specs.declared.record.Record.{Record}
use Rattle.wal_record.specs.declared.entry.Entry.{Entry}
use Rattle.wal_record.specs.declared.entry.Entry.TheVariants as entries
use Rattle.tree_laws.proofs.Whole.{tree}
use Rattle.page_ops.specs.Claims.{session_alone}
use Rattle.page_ops.specs.Desks.{IsMade}
use Rattle.page_ops.specs.Names.{LedgerName}
use Rattle.page_ops.specs.Outcomes.{IsGrant, locked}
use Rattle.page_ops.specs.Seeing.{Account, Enters, IsConsistent, Known, known}
use Rattle.page_ops.specs.declared.outcome.Grant.TheVariants as grants
use Rattle.engine.specs.Answers.{HasLocked, lock_answer}
use Rattle.engine.specs.Beside.{IsInWay}

-- page 1 is there in every life
pub root_made : (opens : List Record → Type 0) (h : List Entry) → IsConsistent opens h → IsMade opens h 1
root_made opens h consistent opening stands =
    let whole = tree (life_log opening h) (consistent.sound opening stands).lawful (consistent.some opening stands) in
    whole.made 1 (omega arith) whole.some

-- where nothing is entered the right is as it was
pub right_same : (s s' : SessionClaim) (n : ℕ) → n ≡ 0 → s' ≡ record { session = s.session; entries = s.entries + n; tx = s.tx } → s' ≡ s
right_same s s' n none is =
    let e : s.entries + n ≡ s.entries = omega (arith, none) in
    is ∙ (λ i. record { session = s.session; entries = e i; tx = s.tx })

pub locked_err : (tx : ℕ) (range : Interval) (mode : Mode) (f : Fault) → locked tx range mode (Err f) ≡ lock_answer tx (held range mode) (Err f)
locked_err tx range mode (faults.Conflict holder other at) = refl
locked_err tx range mode _ = refl

-- the lock stands last, and the right agrees
pub has_locked : (opens : List Record → Type 0) (ledger sessions : LedgerName) (old : Known) (a : Account) (t : PassSeen Entry) (s s' : SessionClaim) (range : Interval) (mode : Mode) → 0 < s.tx → s'.tx ≡ s.tx
    → Enters opens ledger sessions old (entries.Lock s.tx range mode ∷ []) (known a t (session_alone s')) → HasLocked opens t.log (held range mode) s'
has_locked opens ledger sessions old a t s s' range mode active same e = record {
  active = subst (λ (n : ℕ). 0 < n) (sym same) active;
  consistent = e.now.consistent;
  agrees = e.now.rights.s;
  before = e.moment;
  last = e.is ∙ ap (λ (n : ℕ). e.moment ++ entries.Lock n range mode ∷ []) (sym same);
}

-- the least loser that holds a conflicting lock is in the way
pub is_in_way : (opens : List Record → Type 0) (h : List Entry) (tx : ℕ) (range : Interval) (mode : Mode) (t : ℕ) → IsGrant opens h tx (held range mode) (grants.Loser t) → (opening : List Record) → opens opening → IsInWay opening h (held range mode) t
is_in_way opens h tx range mode t g opening stands = let l = g.1 opening stands in record { loser = l.loser; holds = l.holds }
