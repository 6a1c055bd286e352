use Rattle.log_laws.proofs.Beginnings.{history_beginning}
use Rattle.log_laws.proofs.beginning_of_history_law.Goals as goal

pub returns : goal.returns
returns c = history_beginning
