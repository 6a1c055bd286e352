use Rattle.std.proofs.Common.{ap, arith}
use Rattle.log_blocks.specs.LogState.{durable_lsn}
use Rattle.journal.proofs.Calls.{blocks_is}
use Rattle.journal.proofs.Living.{kept_told}
use Rattle.journal.proofs.journal.Journal.tell_durable.Goals as goal

pub invariant_of-self : goal.invariant_of-self
invariant_of-self g c = (c.tell_durable.ensures.same, kept_told _ _ _ _ _ _ _ _ _ _ _ _ c.self.invariant.1 c.durable-durable.ensures c.tell_durable.ensures.number, c.self.invariant.2, c.self.invariant.3, c.self.invariant.4, c.self.invariant.5)

pub returns-clause-durable : goal.returns-clause-durable
returns-clause-durable g c = omega (arith, c.durable-durable.ensures, c.tell_durable.ensures.told, ap durable_lsn (blocks_is _ _ c.self.view_is))
