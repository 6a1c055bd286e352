use Rattle.log_laws.proofs.Beginnings.{beginning}
use Rattle.log_laws.proofs.beginning_law.Goals as goal

pub returns : goal.returns
returns c = beginning
