use Rattle.log_laws.proofs.Central.{central}
use Rattle.log_laws.proofs.central_law.Goals as goal

pub returns : goal.returns
returns c = central
