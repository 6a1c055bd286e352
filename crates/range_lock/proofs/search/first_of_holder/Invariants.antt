use Rattle.std.proofs.Common.{◌≡◌, map, drop}
use Rattle.range_lock.specs.Lock.{Lock}
use Rattle.range_lock.specs.Nearest.{nearest}
use Rattle.range_lock.specs.Tables.{lock_on_range}
use Rattle.range_lock.proofs.search.first_of_holder.Given as goal

abbrev pub invariant-loop-lock : goal.invariant-loop-lock
invariant-loop-lock l =
    let asked : Lock = record { tx = l.tx; range = l.range; mode = l.mode } in
    nearest asked (map (lock_on_range l.holder) (drop l.lock-index l.held)) l.best ≡ nearest asked (map (lock_on_range l.holder) l.held) l.fn.best
