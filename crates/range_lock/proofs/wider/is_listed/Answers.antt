use Rattle.std.proofs.Common.{subst}
use Rattle.range_lock.specs.Lock.{IsAmong}
use Rattle.range_lock.proofs.Members.{among_at}
use Rattle.range_lock.proofs.wider.is_listed.Goals as goal

pub returns-then-is_range_lock : goal.returns-then-is_range_lock
returns-then-is_range_lock c e = subst (λ x. IsAmong x c.args.held.now) (c.is_range_lock.ensures.0 c.if-is_range_lock.true) (among_at c.args.held.now c.loop-lock.lock-index c.lock-item.result c.loop-lock-test.true c.lock-item.is)
