use Rattle.std.proofs.Common.{◌≡◌, map}
use Rattle.std.specs.List.Sorted.{IsStrictlySortedBy}
use Rattle.range_lock.specs.Lock.{Lock}
use Rattle.range_lock.specs.Nearest.{nearest}
use Rattle.range_lock.specs.Point.{point_cmp}
use Rattle.range_lock.specs.Tables.{lock_at_point}
use Rattle.range_lock.proofs.search.first_in_range.Given as goal

abbrev pub invariant-loop-lock : goal.invariant-loop-lock
invariant-loop-lock g l =
    let asked : Lock = record { tx = l.tx; range = l.range; mode = l.mode } in
    record {
      same : nearest asked (map (lock_at_point l.held) l.lock-iterator) l.best ≡ nearest asked (map (lock_at_point l.held) l.points.keys) l.fn.best;
      sorted : IsStrictlySortedBy point_cmp l.lock-iterator;
    }
