use Rattle.log_laws.proofs.Beginnings.{own_writes}
use Rattle.log_laws.proofs.own_writes_law.Goals as goal

pub returns : goal.returns
returns c = own_writes
