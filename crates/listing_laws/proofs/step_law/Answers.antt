use Rattle.listing_laws.proofs.Steps.{step}
use Rattle.listing_laws.proofs.step_law.Goals as goal

pub returns : goal.returns
returns c = step
