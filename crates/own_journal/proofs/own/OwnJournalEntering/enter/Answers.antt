use Rattle.journal.proofs.Calls.{knows_untouched}
use Rattle.own_journal.proofs.Telling.{calls_still, ends_told, never_full}
use Rattle.page_ops.proofs.Telling.{group_telling}
use Rattle.std.specs.Prelude.{Some}
use Rattle.own_journal.proofs.own.OwnJournalEntering.enter.Goals as goal

pub invariant_of-self : goal.invariant_of-self
invariant_of-self g c = record { knows = knows_untouched c.args.self.now.counts c.enter.new.counts c.args.self.now.journal c.enter.new.self c.args.self.now.knows c.enter.ensures.disk c.enter.ensures.learns }

pub returns-clause-entered : goal.returns-clause-entered
returns-clause-entered g c =
    let on = calls_still g.N.Life.opens g.N.Life.log_faults g.N.Life.made c.args.self.now.counts c.enter.new.counts c.enter.new.pass.log c.args.self.now.journal c.enter.new.self c.enter.result c.enter.ensures.ends c.enter.ensures.disk (never_full c.enter.result c.enter.ensures.refused) in
    group_telling (Some c.args.self.now.journal.calls) (Some c.enter.new.self.calls) c.args.self.now.counts c.enter.new.counts on g.N.Life.opens g.N.Life.entries g.N.Life.session_entries c.args.pass.now c.enter.new.pass c.args.rights.now c.enter.new.rights c.args.group.now c.enter.new.group c.enter.result c.enter.ensures.entered

pub returns-clause-ends : goal.returns-clause-ends
returns-clause-ends g c = ends_told g.N.Life.opens g.N.Life.log_faults g.N.Life.made c.args.self.now.counts c.enter.new.counts c.enter.new.pass.log c.args.self.now.journal.calls c.enter.new.self.calls c.enter.result c.enter.ensures.ends
