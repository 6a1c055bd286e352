use Rattle.journal.proofs.Calls.{knows_untouched}
use Rattle.own_journal.proofs.Telling.{ends_told, enters_made, never_ended}
use Rattle.page_ops.specs.Claims.{no_claims}
use Rattle.own_journal.proofs.journaling.OwnJournalJournaling.desk.Goals as goal

pub invariant_of-self : goal.invariant_of-self
invariant_of-self g c = record { knows = knows_untouched c.args.self.now.counts c.desk.new.counts c.args.self.now.journal c.desk.new.self c.args.self.now.knows c.desk.ensures.disk c.desk.ensures.learns }

pub returns-clause-seen : goal.returns-clause-seen
returns-clause-seen g c = enters_made g.N.Life.opens g.N.Life.entries g.N.Life.session_entries c.args.self.now.counts c.desk.new.counts c.args.self.now.journal c.desk.new.self c.args.pass.now c.desk.new.pass no_claims no_claims g.N.Life.log_faults g.N.Life.made c.desk.result c.desk.ensures.ends c.desk.ensures.disk (never_ended c.desk.result c.desk.ensures.refused) c.desk.ensures.seen

pub returns-clause-ends : goal.returns-clause-ends
returns-clause-ends g c = ends_told g.N.Life.opens g.N.Life.log_faults g.N.Life.made c.args.self.now.counts c.desk.new.counts c.desk.new.pass.log c.args.self.now.journal.calls c.desk.new.self.calls c.desk.result c.desk.ensures.ends
