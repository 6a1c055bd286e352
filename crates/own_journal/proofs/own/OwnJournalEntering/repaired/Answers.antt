use Rattle.journal.proofs.Calls.{knows_untouched}
use Rattle.own_journal.proofs.Telling.{ends_told, enters_still, never_enters}
use Rattle.page_ops.specs.Claims.{no_claims}
use Rattle.page_ops.specs.Outcomes.{repairs}
use Rattle.own_journal.proofs.own.OwnJournalEntering.repaired.Goals as goal

pub invariant_of-self : goal.invariant_of-self
invariant_of-self g c = record { knows = knows_untouched c.args.self.now.counts c.repaired.new.counts c.args.self.now.journal c.repaired.new.self c.args.self.now.knows c.repaired.ensures.disk c.repaired.ensures.learns }

pub returns-clause-entered : goal.returns-clause-entered
returns-clause-entered g c = enters_still g.N.Life.opens g.N.Life.entries g.N.Life.session_entries c.args.self.now.counts c.repaired.new.counts c.args.self.now.journal c.repaired.new.self c.args.pass.now c.repaired.new.pass no_claims no_claims g.N.Life.log_faults g.N.Life.made c.repaired.result c.repaired.ensures.ends (repairs c.args.right.now.page c.repaired.result) c.repaired.ensures.disk (never_enters c.repaired.result c.repaired.ensures.refused) c.repaired.ensures.entered

pub returns-clause-ends : goal.returns-clause-ends
returns-clause-ends g c = ends_told g.N.Life.opens g.N.Life.log_faults g.N.Life.made c.args.self.now.counts c.repaired.new.counts c.repaired.new.pass.log c.args.self.now.journal.calls c.repaired.new.self.calls c.repaired.result c.repaired.ensures.ends
