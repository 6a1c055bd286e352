use Rattle.own_journal.proofs.Knowing.{knows_same}
use Rattle.own_journal.proofs.Telling.{ends_told, enters_still, never_enters, untouched_same}
use Rattle.page_ops.specs.Claims.{no_claims}
use Rattle.std.specs.Prelude.{[]}
use Rattle.own_journal.proofs.journaling.OwnJournalJournaling.work.Goals as goal

pub invariant_of-self : goal.invariant_of-self
invariant_of-self g c = record { knows = knows_same c.args.self.now.counts c.work.new.counts c.args.self.now.journal c.work.new.journal c.args.self.now.knows c.work.ensures.same c.work.ensures.learns }

pub returns-clause-seen : goal.returns-clause-seen
returns-clause-seen g c = enters_still g.N.Life.opens g.N.Life.entries g.N.Life.session_entries c.args.self.now.counts c.work.new.counts c.args.self.now.journal c.work.new.journal c.args.pass.now c.work.new.pass no_claims no_claims g.N.Life.log_faults g.N.Life.made c.work.result c.work.ensures.ends [] (untouched_same c.args.self.now.journal c.work.new.journal c.work.ensures.same) (never_enters c.work.result c.work.ensures.refused) c.work.ensures.seen

pub returns-clause-ends : goal.returns-clause-ends
returns-clause-ends g c = ends_told g.N.Life.opens g.N.Life.log_faults g.N.Life.made c.args.self.now.counts c.work.new.counts c.work.new.pass.log c.args.self.now.journal.calls c.work.new.journal.calls c.work.result c.work.ensures.ends
