use Rattle.asking_laws.proofs.Alike.{alike_law}
use Rattle.asking_laws.proofs.alike_law.Goals as goal

pub returns : goal.returns
returns c = alike_law
