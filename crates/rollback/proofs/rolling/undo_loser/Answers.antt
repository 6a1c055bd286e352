use Rattle.rollback.proofs.Over.{loser_over}
use Rattle.rollback.proofs.rolling.undo_loser.Goals as goal

pub returns-clause-over : goal.returns-clause-over
returns-clause-over g c = loser_over g.N.Life.opens c.roll_over.new.pass.log c.args.tx c.roll_over.new.owner c.roll_over.result c.roll_over.ensures.ended
