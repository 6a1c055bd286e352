use Rattle.listing_laws.proofs.Steps.{checkpointed}
use Rattle.listing_laws.proofs.checkpoint_law.Goals as goal

pub returns : goal.returns
returns c = checkpointed
