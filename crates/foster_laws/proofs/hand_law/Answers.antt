use Rattle.foster_laws.proofs.InHand.{hand_law}
use Rattle.foster_laws.proofs.hand_law.Goals as goal

pub returns : goal.returns
returns c = hand_law
