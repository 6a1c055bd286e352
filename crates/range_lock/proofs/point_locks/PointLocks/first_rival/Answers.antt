-- The answer doesn't depend on the set that a lock stands in.
use Rattle.std.proofs.Common.{List, map, sym, ap, ◌∙◌}
use Rattle.range_lock.specs.Lock.{Lock}
use Rattle.range_lock.specs.Nearest.{nearest}
use Rattle.range_lock.specs.Point.{PointLock}
use Rattle.range_lock.specs.Tables.{lock_at_point}
use Rattle.range_lock.proofs.Conflicts.{nearest-both}
use Rattle.range_lock.proofs.point_locks.PointLocks.first_rival.Goals as goal

pub returns : goal.returns
returns c =
    let asked : Lock = record { tx = c.args.tx; range = c.args.range.now; mode = c.args.mode } in
    let short = c.self.inside.short.keys in
    let long = c.self.inside.long.keys in
    c.first_point-2.ensures ∙ ap (nearest asked (map (lock_at_point c.args.held) long)) c.first_point.ensures
    ∙ sym (nearest-both c.args.held asked short long c.args.best.now)
    ∙ ap (λ (ps : List PointLock). nearest asked (map (lock_at_point c.args.held) ps) c.args.best.now) c.self.view_is
