use Rattle.loser_laws.proofs.Ways.{ways}
use Rattle.loser_laws.proofs.ways_law.Goals as goal

pub returns : goal.returns
returns c = ways
