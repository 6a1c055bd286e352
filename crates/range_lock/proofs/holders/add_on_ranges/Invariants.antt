use Rattle.std.proofs.Common.{◌≡◌, ℕ}
use Rattle.std.specs.Prelude.{◌||◌, flat_map}
use Rattle.std.specs.List.{list_any}
use Rattle.std.specs.Ordering.{nat_cmp}
use Rattle.std.specs.BTreeSet.{contains}
use Rattle.range_lock.specs.Tables.{locks_on_ranges, bars_by}
use Rattle.range_lock.proofs.holders.add_on_ranges.Given as goal

abbrev pub invariant-loop-holder : goal.invariant-loop-holder
invariant-loop-holder l =
    (tx : ℕ) → (contains nat_cmp l.found tx || list_any (bars_by l.range l.mode tx) (flat_map locks_on_ranges l.holder-iterator))
    ≡ (contains nat_cmp l.fn.found tx || list_any (bars_by l.range l.mode tx) (flat_map locks_on_ranges l.ranges.entries))
