use Rattle.std.proofs.Common.{◌≡◌}
use Rattle.std.specs.Prelude.{flat_map}
use Rattle.range_lock.specs.Lock.{Lock}
use Rattle.range_lock.specs.Nearest.{nearest}
use Rattle.range_lock.specs.Tables.{locks_on_ranges}
use Rattle.range_lock.proofs.search.first_range.Given as goal

abbrev pub invariant-loop-holder : goal.invariant-loop-holder
invariant-loop-holder l =
    let asked : Lock = record { tx = l.tx; range = l.range; mode = l.mode } in
    nearest asked (flat_map locks_on_ranges l.holder-iterator) l.best ≡ nearest asked (flat_map locks_on_ranges l.ranges.entries) l.fn.best
