use Rattle.media_mem.proofs.Reaching.{settles_only, settles_no_more, settles_time}
use Rattle.media_mem.proofs.disk.MemDiskDisk.power_cycle.Goals as goal

pub returns-clause-durable : goal.returns-clause-durable
returns-clause-durable c t = settles_only _ _ _ c.lose.ensures.settled

pub returns-clause-crash : goal.returns-clause-crash
returns-clause-crash c = settles_no_more _ _ _ c.lose.ensures.settled c.lose.ensures.reached

pub returns-clause-time : goal.returns-clause-time
returns-clause-time c = settles_time _ _ _ c.lose.ensures.settled
