use Rattle.journal.proofs.Calls.{knows_later}
use Rattle.own_journal.proofs.Telling.{ends_told, enters_calling}
use Rattle.page_ops.specs.Claims.{no_claims}
use Rattle.std.specs.Prelude.{[]}
use Rattle.own_journal.proofs.journaling.OwnJournalJournaling.last_open.Goals as goal

pub invariant_of-self : goal.invariant_of-self
invariant_of-self g c = record { knows = knows_later c.args.self.now.counts c.last_open.new.counts c.args.self.now.journal c.last_open.new.journal c.args.self.now.knows c.last_open.ensures.end c.last_open.ensures.learns }

pub returns-clause-seen : goal.returns-clause-seen
returns-clause-seen g c = enters_calling g.N.Life.opens g.N.Life.entries g.N.Life.session_entries c.args.self.now.counts c.last_open.new.counts c.args.self.now.journal c.last_open.new.journal c.args.pass.now c.last_open.new.pass no_claims no_claims g.N.Life.log_faults g.N.Life.made c.last_open.result c.last_open.ensures.ends [] c.last_open.ensures.calls c.last_open.ensures.seen

pub returns-clause-ends : goal.returns-clause-ends
returns-clause-ends g c = ends_told g.N.Life.opens g.N.Life.log_faults g.N.Life.made c.args.self.now.counts c.last_open.new.counts c.last_open.new.pass.log c.args.self.now.journal.calls c.last_open.new.journal.calls c.last_open.result c.last_open.ensures.ends
