use Rattle.std.proofs.Common.{subst, ap}
use Rattle.media.specs.Crash.{Elapses}
use Rattle.media_mem.specs.Reach.{MemSeen, leaves, left_at}
use Rattle.media_mem.proofs.Reaching.{elapses_push, moment_of}
use Rattle.media_mem.proofs.disk.MemDiskDisk.discard.Goals as goal

pub returns-clause-time : goal.returns-clause-time
returns-clause-time c =
    subst (λ (m : MemSeen). Elapses moment_of leaves left_at m c.forget.new.self) c.in_ok-call.ensures.ok
    (elapses_push c.call.new.self c.forget.new.self (ap (λ (m : MemSeen). m.past) c.forget.ensures.cut))
