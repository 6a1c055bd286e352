use Rattle.log_laws.proofs.Holders.{holders}
use Rattle.log_laws.proofs.holders_law.Goals as goal

pub returns : goal.returns
returns c = holders
