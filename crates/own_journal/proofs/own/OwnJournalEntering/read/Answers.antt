use Rattle.journal.proofs.Calls.{knows_later}
use Rattle.own_journal.proofs.Telling.{ends_told, enters_calling}
use Rattle.page_ops.specs.Claims.{no_claims}
use Rattle.std.specs.Prelude.{[]}
use Rattle.own_journal.proofs.own.OwnJournalEntering.read.Goals as goal

pub invariant_of-self : goal.invariant_of-self
invariant_of-self g c = record { knows = knows_later c.args.self.now.counts c.read.new.counts c.args.self.now.journal c.read.new.self c.args.self.now.knows c.read.ensures.end c.read.ensures.learns }

pub returns-clause-seen : goal.returns-clause-seen
returns-clause-seen g c = enters_calling g.N.Life.opens g.N.Life.entries g.N.Life.session_entries c.args.self.now.counts c.read.new.counts c.args.self.now.journal c.read.new.self c.args.pass.now c.read.new.pass no_claims no_claims g.N.Life.log_faults g.N.Life.made c.read.result c.read.ensures.ends [] c.read.ensures.calls c.read.ensures.seen

pub returns-clause-ends : goal.returns-clause-ends
returns-clause-ends g c = ends_told g.N.Life.opens g.N.Life.log_faults g.N.Life.made c.args.self.now.counts c.read.new.counts c.read.new.pass.log c.args.self.now.journal.calls c.read.new.self.calls c.read.result c.read.ensures.ends
