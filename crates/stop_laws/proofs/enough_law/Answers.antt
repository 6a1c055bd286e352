use Rattle.stop_laws.proofs.Enough.{enough_more, enough_point}
use Rattle.stop_laws.proofs.enough_law.Goals as goal

pub returns : goal.returns
returns c log first = record { more = λ rest lawful is. enough_more log rest first lawful is; point = enough_point log first }
