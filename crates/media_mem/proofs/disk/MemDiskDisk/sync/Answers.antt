use Rattle.std.proofs.Common.{◌≡◌, ◌∙◌, subst}
use Rattle.media.specs.Kept.{Kept}
use Rattle.media.specs.Crash.{Elapses}
use Rattle.media_mem.specs.Reach.{MemSeen, kept_now, leaves, left_at}
use Rattle.media_mem.proofs.Reaching.{settles_only, settles_no_more, settles_time, settles_same, moment_of}
use Rattle.media_mem.proofs.disk.MemDiskDisk.sync.Goals as goal

pub returns-clause-durable : goal.returns-clause-durable
returns-clause-durable c t k left =
    subst (λ (m : MemSeen). k ≡ kept_now m) c.in_ok-call.ensures.ok (settles_only _ _ _ c.finish.ensures.settled k left ∙ settles_same _ _ c.finish.ensures.settled)

pub returns-clause-crash : goal.returns-clause-crash
returns-clause-crash c =
    subst (λ (m : MemSeen). (k : Kept) → leaves c.finish.new.self k → leaves m k) c.in_ok-call.ensures.ok (settles_no_more _ _ _ c.finish.ensures.settled c.finish.ensures.reached)

pub returns-clause-time : goal.returns-clause-time
returns-clause-time c =
    subst (λ (m : MemSeen). Elapses moment_of leaves left_at m c.finish.new.self) c.in_ok-call.ensures.ok (settles_time _ _ _ c.finish.ensures.settled)
