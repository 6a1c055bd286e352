use Rattle.std.proofs.Common.{◌∙◌}
use Rattle.store_model.proofs.Bools.{not_both}
use Rattle.range_lock.proofs.Sets.{none_left}
use Rattle.range_lock.proofs.point_locks.PointLocks.is_empty.Goals as goal

pub returns-else-is_empty : goal.returns-else-is_empty
returns-else-is_empty c = (
  λ e. absurd (not_both c.is_empty.result e c.if-is_empty.false),
  λ e. c.is_empty.ensures.1 (none_left c.self.inside.short.keys c.self.inside.long.keys (c.self.view_is ∙ e)),
)
