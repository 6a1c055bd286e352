use Rattle.wal_record.specs.declared.record.Lost.{Lost}
use Rattle.wal_record.specs.declared.record.Record.TheVariants as kinds
use Rattle.store_life.specs.SoFar.{actives}
use Rattle.store_life.proofs.Looked.{marked, marked_alone, marked_durable, marked_keeps}
use Rattle.store_life.proofs.Naming.{marked_named}
use Rattle.store_life.proofs.life.StoreLife.mark_lost.Goals as goal

pub returns-clause-runs : goal.returns-clause-runs
returns-clause-runs g c = record { alone = marked_alone g.N.Life.opens g.N.Life.entries g.N.Life.session_entries (g.J.Entering.account c.args.journal.now) (g.J.Entering.account c.mark_lost.new.journal) c.args.self.now.pass c.mark_lost.new.pass c.requires.alone Lost kinds.Lost c.mark_lost.result c.mark_lost.ensures.entered; begun = c.requires.begun; few = c.requires.few }

pub returns-clause-entered : goal.returns-clause-entered
returns-clause-entered g c = marked g.N.Life.opens g.N.Life.entries g.N.Life.session_entries (g.J.Entering.account c.args.journal.now) (g.J.Entering.account c.mark_lost.new.journal) c.args.self.now.pass c.mark_lost.new.pass c.requires.alone Lost kinds.Lost c.mark_lost.result c.mark_lost.ensures.entered

pub returns-clause-named : goal.returns-clause-named
returns-clause-named g c = λ named. marked_named Lost kinds.Lost c.mark_lost.result c.args.self.now.pass.log c.mark_lost.new.pass.log (actives c.args.self.now.named.items) (marked g.N.Life.opens g.N.Life.entries g.N.Life.session_entries (g.J.Entering.account c.args.journal.now) (g.J.Entering.account c.mark_lost.new.journal) c.args.self.now.pass c.mark_lost.new.pass c.requires.alone Lost kinds.Lost c.mark_lost.result c.mark_lost.ensures.entered) named

pub returns-clause-durable : goal.returns-clause-durable
returns-clause-durable g c = marked_durable g.N.Life.opens g.N.Life.entries g.N.Life.session_entries (g.J.Entering.account c.args.journal.now) (g.J.Entering.account c.mark_lost.new.journal) c.args.self.now.pass c.mark_lost.new.pass c.requires.alone Lost kinds.Lost c.mark_lost.result c.mark_lost.ensures.entered

pub returns-clause-keeps : goal.returns-clause-keeps
returns-clause-keeps g c = marked_keeps g.N.Life.opens g.N.Life.entries g.N.Life.session_entries (g.J.Entering.account c.args.journal.now) (g.J.Entering.account c.mark_lost.new.journal) c.args.self.now.pass c.mark_lost.new.pass c.requires.alone Lost kinds.Lost c.mark_lost.result c.mark_lost.ensures.entered
