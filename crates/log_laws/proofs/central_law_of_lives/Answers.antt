use Rattle.log_laws.proofs.Serial.{central_of_lives}
use Rattle.log_laws.proofs.central_law_of_lives.Goals as goal

pub returns : goal.returns
returns c = central_of_lives
