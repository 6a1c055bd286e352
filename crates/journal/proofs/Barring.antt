-- Who else has taken a lock that conflicts, by the list of those that the table names.
use Rattle.std.proofs.Common.{◌≡◌, ℕ, eqb, List, Bool, true, false, refl, ap, ◌∙◌}
use Rattle.std.specs.Prelude.{not}
use Rattle.std.specs.List.{list_any}
use Rattle.range_lock.specs.Held.{AreHolders}
use Rattle.range_lock.specs.Lock.{Lock, bars, conflict}
use Rattle.range_lock.specs.declared.range_locks.RangeLocks.{RangeLocks}
use Rattle.range_lock.proofs.Holding.{any_among, among_any}
use Rattle.store_model.proofs.Bools.{and_true, both_true, false_unless, not_both}
use Rattle.journal.specs.Locks.{IsBarred, IsFree}

module _ (t : RangeLocks) (a : Lock) (txs : List ℕ) (k : AreHolders t a.range a.mode txs) where
  abbrev pub other : ℕ → Bool
  other n = not (eqb n a.tx)

  pub barred_by : list_any other txs ≡ true → IsBarred t a
  barred_by some =
      let one = any_among other txs some in
      let lock = (k.exact one.0).0 one.1 in
      (lock.0, lock.1, and_true (other lock.0.tx) (bars a.range a.mode lock.0) (ap other lock.2 ∙ one.2) lock.3)

  pub free_by : list_any other txs ≡ false → IsFree t a
  free_by none l has = false_unless (conflict a l) (λ c.
      let parts = both_true (other l.tx) (bars a.range a.mode l) c in
      not_both (list_any other txs) (among_any other l.tx txs ((k.exact l.tx).1 (l, has, refl, parts.1)) parts.0) none)
