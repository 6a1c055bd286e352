use Rattle.loser_laws.proofs.Least.{least}
use Rattle.loser_laws.proofs.least_law.Goals as goal

pub returns : goal.returns
returns c = least
