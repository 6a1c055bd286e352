use Rattle.journal.proofs.Calls.{knows_later}
use Rattle.own_journal.proofs.Telling.{calls_on, ends_told, unfaulted}
use Rattle.page_ops.proofs.Telling.{commits_or_telling}
use Rattle.page_ops.specs.Claims.{session_alone}
use Rattle.std.specs.Prelude.{Some}
use Rattle.own_journal.proofs.journaling.OwnJournalJournaling.commit.Goals as goal

pub invariant_of-self : goal.invariant_of-self
invariant_of-self g c = record { knows = knows_later c.args.self.now.counts c.commit.new.counts c.args.self.now.journal c.commit.new.self c.args.self.now.knows c.commit.ensures.end c.commit.ensures.learns }

pub returns-clause-entered : goal.returns-clause-entered
returns-clause-entered g c =
    let on = calls_on g.N.Life.opens g.N.Life.log_faults g.N.Life.made c.args.self.now.counts c.commit.new.counts c.commit.new.pass.log c.args.self.now.journal.calls c.commit.new.self.calls c.commit.result c.commit.ensures.ends c.commit.ensures.calls in
    let same = unfaulted g.N.Life.opens g.N.Life.log_faults g.N.Life.made c.args.self.now.counts c.commit.new.counts c.commit.new.pass.log c.commit.result c.commit.ensures.ends in
    commits_or_telling g.N.Life.opens g.N.Life.entries g.N.Life.session_entries (Some c.args.self.now.journal.calls) (Some c.commit.new.self.calls) c.args.self.now.counts c.commit.new.counts c.args.pass.now c.commit.new.pass (session_alone c.args.s.now) (session_alone c.commit.new.s) on c.args.s.now c.commit.result same c.commit.ensures.entered

pub returns-clause-ends : goal.returns-clause-ends
returns-clause-ends g c = ends_told g.N.Life.opens g.N.Life.log_faults g.N.Life.made c.args.self.now.counts c.commit.new.counts c.commit.new.pass.log c.args.self.now.journal.calls c.commit.new.self.calls c.commit.result c.commit.ensures.ends
