use Rattle.journal.proofs.Calls.{knows_untouched}
use Rattle.own_journal.proofs.Telling.{ends_told, enters_still, never_conflict}
use Rattle.page_ops.specs.Claims.{session_alone}
use Rattle.page_ops.specs.Outcomes.{locked}
use Rattle.own_journal.proofs.journaling.OwnJournalJournaling.lock.Goals as goal

pub invariant_of-self : goal.invariant_of-self
invariant_of-self g c = record { knows = knows_untouched c.args.self.now.counts c.lock.new.counts c.args.self.now.journal c.lock.new.self c.args.self.now.knows c.lock.ensures.disk c.lock.ensures.learns }

pub returns-clause-entered : goal.returns-clause-entered
returns-clause-entered g c = enters_still g.N.Life.opens g.N.Life.entries g.N.Life.session_entries c.args.self.now.counts c.lock.new.counts c.args.self.now.journal c.lock.new.self c.args.pass.now c.lock.new.pass (session_alone c.args.s.now) (session_alone c.lock.new.s) g.N.Life.log_faults g.N.Life.made c.lock.result c.lock.ensures.ends (locked c.args.s.now.tx c.args.range.now c.args.mode c.lock.result) c.lock.ensures.disk (never_conflict c.lock.result c.lock.ensures.refused) c.lock.ensures.entered

pub returns-clause-ends : goal.returns-clause-ends
returns-clause-ends g c = ends_told g.N.Life.opens g.N.Life.log_faults g.N.Life.made c.args.self.now.counts c.lock.new.counts c.lock.new.pass.log c.args.self.now.journal.calls c.lock.new.self.calls c.lock.result c.lock.ensures.ends
