use Rattle.own_journal.proofs.Telling.{calm_told, enters_same, untouched_same}
use Rattle.std.specs.Prelude.{[]}
use Rattle.own_journal.proofs.own.OwnJournalEntering.see.Goals as goal

pub returns-clause-seen : goal.returns-clause-seen
returns-clause-seen g c = enters_same g.N.Life.opens g.N.Life.entries g.N.Life.session_entries c.args.self.now.counts c.see.new.counts c.args.self.now.journal c.see.new.self c.args.pass.now c.see.new.pass c.args.rights.now c.see.new.rights [] c.see.ensures.counts (untouched_same c.args.self.now.journal c.see.new.self c.see.ensures.same) c.see.ensures.seen

pub returns-clause-calm : goal.returns-clause-calm
returns-clause-calm g c = calm_told c.args.self.now.counts c.see.new.counts c.args.self.now.journal.calls c.see.new.self.calls c.see.ensures.counts
