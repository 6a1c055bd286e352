use Rattle.wal_record.specs.declared.record.Checkpoint.{Checkpoint}
use Rattle.wal_record.specs.declared.record.Record.TheVariants as kinds
use Rattle.store_life.specs.SoFar.{actives}
use Rattle.store_life.proofs.Looked.{marked, marked_alone, marked_durable, marked_keeps}
use Rattle.store_life.proofs.Naming.{marked_named}
use Rattle.store_life.proofs.life.StoreLife.checkpoint.Goals as goal

pub returns-clause-runs : goal.returns-clause-runs
returns-clause-runs g c = record { alone = marked_alone g.N.Life.opens g.N.Life.entries g.N.Life.session_entries (g.J.Entering.account c.args.journal.now) (g.J.Entering.account c.checkpoint.new.journal) c.args.self.now.pass c.checkpoint.new.pass c.requires.alone Checkpoint kinds.Checkpoint c.checkpoint.result c.checkpoint.ensures.entered; begun = c.requires.begun; few = c.requires.few }

pub returns-clause-entered : goal.returns-clause-entered
returns-clause-entered g c = marked g.N.Life.opens g.N.Life.entries g.N.Life.session_entries (g.J.Entering.account c.args.journal.now) (g.J.Entering.account c.checkpoint.new.journal) c.args.self.now.pass c.checkpoint.new.pass c.requires.alone Checkpoint kinds.Checkpoint c.checkpoint.result c.checkpoint.ensures.entered

pub returns-clause-named : goal.returns-clause-named
returns-clause-named g c = λ named. marked_named Checkpoint kinds.Checkpoint c.checkpoint.result c.args.self.now.pass.log c.checkpoint.new.pass.log (actives c.args.self.now.named.items) (marked g.N.Life.opens g.N.Life.entries g.N.Life.session_entries (g.J.Entering.account c.args.journal.now) (g.J.Entering.account c.checkpoint.new.journal) c.args.self.now.pass c.checkpoint.new.pass c.requires.alone Checkpoint kinds.Checkpoint c.checkpoint.result c.checkpoint.ensures.entered) named

pub returns-clause-durable : goal.returns-clause-durable
returns-clause-durable g c = marked_durable g.N.Life.opens g.N.Life.entries g.N.Life.session_entries (g.J.Entering.account c.args.journal.now) (g.J.Entering.account c.checkpoint.new.journal) c.args.self.now.pass c.checkpoint.new.pass c.requires.alone Checkpoint kinds.Checkpoint c.checkpoint.result c.checkpoint.ensures.entered

pub returns-clause-keeps : goal.returns-clause-keeps
returns-clause-keeps g c = marked_keeps g.N.Life.opens g.N.Life.entries g.N.Life.session_entries (g.J.Entering.account c.args.journal.now) (g.J.Entering.account c.checkpoint.new.journal) c.args.self.now.pass c.checkpoint.new.pass c.requires.alone Checkpoint kinds.Checkpoint c.checkpoint.result c.checkpoint.ensures.entered
