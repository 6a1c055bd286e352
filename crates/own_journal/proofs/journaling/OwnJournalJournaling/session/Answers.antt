use Rattle.journal.proofs.Calls.{knows_untouched}
use Rattle.own_journal.proofs.Telling.{ends_told, enters_made, never_enters}
use Rattle.page_ops.specs.Claims.{no_claims}
use Rattle.own_journal.proofs.journaling.OwnJournalJournaling.session.Goals as goal

pub invariant_of-self : goal.invariant_of-self
invariant_of-self g c = record { knows = knows_untouched c.args.self.now.counts c.session.new.counts c.args.self.now.journal c.session.new.self c.args.self.now.knows c.session.ensures.disk c.session.ensures.learns }

pub returns-clause-seen : goal.returns-clause-seen
returns-clause-seen g c = enters_made g.N.Life.opens g.N.Life.entries g.N.Life.session_entries c.args.self.now.counts c.session.new.counts c.args.self.now.journal c.session.new.self c.args.pass.now c.session.new.pass no_claims no_claims g.N.Life.log_faults g.N.Life.made c.session.result c.session.ensures.ends c.session.ensures.disk (never_enters c.session.result c.session.ensures.refused) c.session.ensures.seen

pub returns-clause-ends : goal.returns-clause-ends
returns-clause-ends g c = ends_told g.N.Life.opens g.N.Life.log_faults g.N.Life.made c.args.self.now.counts c.session.new.counts c.session.new.pass.log c.args.self.now.journal.calls c.session.new.self.calls c.session.result c.session.ensures.ends
