use Rattle.std.proofs.Common.{map, sym, ap, ◌∙◌}
use Rattle.store_model.specs.declared.range.Mode.TheVariants.{Shared, Exclusive}
use Rattle.range_lock.specs.Nearest.{nearest}
use Rattle.range_lock.specs.Tables.{lock_at_point, locks_at_points}
use Rattle.range_lock.proofs.Conflicts.{nearest-append}
use Rattle.range_lock.proofs.range_locks.RangeLocks.first_conflict.Goals as goal

pub returns : goal.returns
returns c =
    let t = c.args.self.now in
    let at_points = c.first_rival-2.ensures ∙ ap (nearest _ _) c.first_rival.ensures ∙ sym (nearest-append _ (map (lock_at_point Shared) t.shared) (map (lock_at_point Exclusive) t.exclusive) _) in
    c.in_ok-first_range.ensures ∙ ap (nearest _ _) at_points ∙ sym (nearest-append _ (locks_at_points t.shared t.exclusive) _ _)
