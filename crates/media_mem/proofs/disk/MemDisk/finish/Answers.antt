use Rattle.std.proofs.Common.{subst}
use Rattle.media_mem.specs.Reach.{MemSeen, kept_now, leaves}
use Rattle.media_mem.proofs.Keeping.{now_reached}
use Rattle.media_mem.proofs.disk.MemDisk.finish.Goals as goal

pub returns-then-not-is_empty-clause-reached : goal.returns-then-not-is_empty-clause-reached
returns-then-not-is_empty-clause-reached c = subst (λ (m : MemSeen). leaves m (kept_now m)) c.self.view_is (now_reached _ _ _ _ c.self.invariant)
