use Rattle.store_life.proofs.Looked.{looked_alone, looked_same}
use Rattle.store_life.proofs.life.StoreLife.survey.Goals as goal

pub returns-clause-runs : goal.returns-clause-runs
returns-clause-runs g c = record { alone = looked_alone g.N.Life.opens g.N.Life.entries g.N.Life.session_entries (g.J.Entering.account c.args.journal.now) (g.J.Entering.account c.survey.new.self) c.args.self.now.pass c.survey.new.pass c.requires.alone c.survey.ensures.seen; begun = c.requires.begun; few = c.requires.few }

pub returns-clause-same : goal.returns-clause-same
returns-clause-same g c = looked_same g.N.Life.opens g.N.Life.entries g.N.Life.session_entries (g.J.Entering.account c.args.journal.now) (g.J.Entering.account c.survey.new.self) c.args.self.now.pass c.survey.new.pass c.requires.alone c.survey.ensures.seen

pub returns-clause-durable : goal.returns-clause-durable
returns-clause-durable g c = c.survey.ensures.seen.durable

pub returns-clause-keeps : goal.returns-clause-keeps
returns-clause-keeps g c = c.survey.ensures.seen.keeps
