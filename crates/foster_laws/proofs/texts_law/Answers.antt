use Rattle.foster_laws.proofs.Steps.{texts_law}
use Rattle.foster_laws.proofs.texts_law.Goals as goal

pub returns : goal.returns
returns c = texts_law
