use Rattle.own_journal.proofs.Knowing.{knows_same}
use Rattle.own_journal.proofs.Telling.{ends_told, enters_still, never_enters, untouched_same}
use Rattle.page_ops.specs.Claims.{no_claims}
use Rattle.std.specs.Prelude.{[]}
use Rattle.own_journal.proofs.own.OwnJournalEntering.listed.Goals as goal

pub invariant_of-self : goal.invariant_of-self
invariant_of-self g c = record { knows = knows_same c.args.self.now.counts c.listed.new.counts c.args.self.now.journal c.listed.new.journal c.args.self.now.knows c.listed.ensures.same c.listed.ensures.learns }

pub returns-clause-seen : goal.returns-clause-seen
returns-clause-seen g c = enters_still g.N.Life.opens g.N.Life.entries g.N.Life.session_entries c.args.self.now.counts c.listed.new.counts c.args.self.now.journal c.listed.new.journal c.args.pass.now c.listed.new.pass no_claims no_claims g.N.Life.log_faults g.N.Life.made c.listed.result c.listed.ensures.ends [] (untouched_same c.args.self.now.journal c.listed.new.journal c.listed.ensures.same) (never_enters c.listed.result c.listed.ensures.refused) c.listed.ensures.seen

pub returns-clause-ends : goal.returns-clause-ends
returns-clause-ends g c = ends_told g.N.Life.opens g.N.Life.log_faults g.N.Life.made c.args.self.now.counts c.listed.new.counts c.listed.new.pass.log c.args.self.now.journal.calls c.listed.new.journal.calls c.listed.result c.listed.ensures.ends
