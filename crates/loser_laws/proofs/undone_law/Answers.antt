use Rattle.loser_laws.proofs.Lateness.{undone}
use Rattle.loser_laws.proofs.undone_law.Goals as goal

pub returns : goal.returns
returns c = undone
