use Rattle.std.proofs.Common.{◌≡◌, ℕ, map}
use Rattle.std.specs.Prelude.{◌||◌}
use Rattle.std.specs.List.{list_any}
use Rattle.std.specs.List.Sorted.{IsStrictlySortedBy}
use Rattle.std.specs.Ordering.{nat_cmp}
use Rattle.std.specs.BTreeSet.{contains}
use Rattle.range_lock.specs.Point.{point_cmp}
use Rattle.range_lock.specs.Tables.{lock_at_point, bars_by}
use Rattle.range_lock.proofs.holders.add_at_points.Given as goal

abbrev pub invariant-loop-lock : goal.invariant-loop-lock
invariant-loop-lock g l = record {
  same : (tx : ℕ) → (contains nat_cmp l.found tx || list_any (bars_by l.range l.mode tx) (map (lock_at_point l.held) l.lock-iterator))
      ≡ (contains nat_cmp l.fn.found tx || list_any (bars_by l.range l.mode tx) (map (lock_at_point l.held) l.points.keys));
  sorted : IsStrictlySortedBy point_cmp l.lock-iterator;
}
