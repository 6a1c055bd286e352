use Rattle.log_laws.proofs.LeftLaws.{lives_law}
use Rattle.log_laws.proofs.lives_law.Goals as goal

pub returns : goal.returns
returns c = lives_law
