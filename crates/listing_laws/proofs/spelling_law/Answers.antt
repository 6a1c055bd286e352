use Rattle.listing_laws.proofs.Sizes.{spelling_law}
use Rattle.listing_laws.proofs.spelling_law.Goals as goal

pub returns : goal.returns
returns c = spelling_law
