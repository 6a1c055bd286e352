use Rattle.command_laws.proofs.Right.{right_law}
use Rattle.store_life.proofs.life.StoreLife.look.Goals as goal

pub returns-clause-right : goal.returns-clause-right
returns-clause-right g c = λ opening stands. (right_law opening c.args.self.now.pass.log).now (c.requires.alone.consistent.sound opening stands) (c.requires.alone.consistent.legal opening stands)

pub returns-clause-before : goal.returns-clause-before
returns-clause-before g c = λ opening first rest stands is. (right_law opening c.args.self.now.pass.log).before (c.requires.alone.consistent.sound opening stands) (c.requires.alone.consistent.legal opening stands) first rest is
