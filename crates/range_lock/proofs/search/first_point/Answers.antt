-- No lock at all, or two shared ones, are in no conflict.
use Rattle.std.proofs.Common.{List, map, sym, ap, ◌∙◌}
use Rattle.std.proofs.lemmas.List.{nil_from_length}
use Rattle.range_lock.specs.Lock.{Lock}
use Rattle.range_lock.specs.Nearest.{nearest}
use Rattle.range_lock.specs.Point.{PointLock}
use Rattle.range_lock.specs.Tables.{lock_at_point}
use Rattle.range_lock.proofs.Conflicts.{nearest-nil, nearest-shared}
use Rattle.range_lock.proofs.search.first_point.Goals.{then-is_empty-via-then-is_empty, then-is_empty-via-else-is_empty+then-not-is_one_exclusive}
use Rattle.range_lock.proofs.search.first_point.Goals as goal

pub returns-then-is_empty : goal.returns-then-is_empty
returns-then-is_empty g c =
    let asked : Lock = record { tx = c.args.tx; range = c.args.range.now; mode = c.args.mode } in
    elim c.then-is_empty.branch [
      | then-is_empty-via-then-is_empty w ↦ sym (ap (λ (ps : List PointLock). nearest asked (map (lock_at_point c.args.held) ps) c.args.best.now) (nil_from_length _ (c.is_empty.ensures.0 w.if-is_empty.true)) ∙ nearest-nil asked c.args.best.now)
      | then-is_empty-via-else-is_empty+then-not-is_one_exclusive w ↦ sym (nearest-shared c.args.held asked (sym w.is_one_exclusive.ensures ∙ w.if-not-is_one_exclusive.true) c.args.points.now.keys c.args.best.now)
    ]
