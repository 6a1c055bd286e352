use Rattle.log_laws.proofs.LeftLaws.{left_law}
use Rattle.log_laws.proofs.left_law.Goals as goal

pub returns : goal.returns
returns c = left_law
