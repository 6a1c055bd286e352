use Rattle.log_laws.proofs.Places.{places}
use Rattle.log_laws.proofs.places_law.Goals as goal

pub returns : goal.returns
returns c = places
