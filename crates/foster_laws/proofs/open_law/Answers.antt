use Rattle.foster_laws.proofs.Linking.{open_law}
use Rattle.foster_laws.proofs.open_law.Goals as goal

pub returns : goal.returns
returns c = open_law
