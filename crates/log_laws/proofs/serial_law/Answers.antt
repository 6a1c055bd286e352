use Rattle.log_laws.proofs.Serial.{serial_all}
use Rattle.log_laws.proofs.serial_law.Goals as goal

pub returns : goal.returns
returns c = serial_all
