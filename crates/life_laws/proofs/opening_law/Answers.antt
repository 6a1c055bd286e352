use Rattle.life_laws.proofs.Opened.{opening}
use Rattle.life_laws.proofs.opening_law.Goals as goal

pub returns : goal.returns
returns c = opening
