use Rattle.std.proofs.Common.{subst}
use Rattle.range_lock.specs.Lock.{IsAmong}
use Rattle.range_lock.proofs.release.remove_listed.Goals as goal

pub returns-then-is_empty-clause-gone : goal.returns-then-is_empty-clause-gone
returns-then-is_empty-clause-gone c p t h = absurd (subst (IsAmong p) (c.is_empty.ensures.0 c.if-is_empty.true) h)
