use Rattle.listing_laws.proofs.Steps.{rest_of}
use Rattle.listing_laws.proofs.rest_law.Goals as goal

pub returns : goal.returns
returns c = rest_of
