use Rattle.log_laws.proofs.Beginnings.{structure}
use Rattle.log_laws.proofs.structure_law.Goals as goal

pub returns : goal.returns
returns c = structure
