use Rattle.listing_laws.proofs.Reading.{reading}
use Rattle.listing_laws.proofs.reading_law.Goals as goal

pub returns : goal.returns
returns c = reading
