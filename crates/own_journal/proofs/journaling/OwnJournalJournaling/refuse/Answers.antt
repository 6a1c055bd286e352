use Rattle.journal.proofs.Calls.{knows_untouched}
use Rattle.own_journal.proofs.Telling.{ends_told, enters_still, never_enters}
use Rattle.page_ops.specs.Claims.{session_alone}
use Rattle.page_ops.specs.Outcomes.{refused}
use Rattle.own_journal.proofs.journaling.OwnJournalJournaling.refuse.Goals as goal

pub invariant_of-self : goal.invariant_of-self
invariant_of-self g c = record { knows = knows_untouched c.args.self.now.counts c.refuse.new.counts c.args.self.now.journal c.refuse.new.self c.args.self.now.knows c.refuse.ensures.disk c.refuse.ensures.learns }

pub returns-clause-entered : goal.returns-clause-entered
returns-clause-entered g c = enters_still g.N.Life.opens g.N.Life.entries g.N.Life.session_entries c.args.self.now.counts c.refuse.new.counts c.args.self.now.journal c.refuse.new.self c.args.pass.now c.refuse.new.pass (session_alone c.args.s.now) (session_alone c.refuse.new.s) g.N.Life.log_faults g.N.Life.made c.refuse.result c.refuse.ensures.ends (refused c.args.s.now.session c.args.s.now.tx c.args.request c.refuse.result) c.refuse.ensures.disk (never_enters c.refuse.result c.refuse.ensures.refused) c.refuse.ensures.entered

pub returns-clause-ends : goal.returns-clause-ends
returns-clause-ends g c = ends_told g.N.Life.opens g.N.Life.log_faults g.N.Life.made c.args.self.now.counts c.refuse.new.counts c.refuse.new.pass.log c.args.self.now.journal.calls c.refuse.new.self.calls c.refuse.result c.refuse.ensures.ends
