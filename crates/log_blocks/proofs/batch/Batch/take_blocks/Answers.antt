use Rattle.log_blocks.proofs.Ready.{last_fits}
use Rattle.log_blocks.proofs.batch.Batch.take_blocks.Goals as goal

pub close_last-requires-clause-size : goal.close_last-requires-clause-size
close_last-requires-clause-size c = last_fits c.self.inside.closed c.self.inside.last c.self.invariant.sized
