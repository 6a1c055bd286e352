use Rattle.loser_laws.proofs.Lateness.{ended}
use Rattle.loser_laws.proofs.ended_law.Goals as goal

pub returns : goal.returns
returns c = ended
