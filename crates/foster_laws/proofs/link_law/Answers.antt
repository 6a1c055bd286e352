use Rattle.foster_laws.proofs.Linking.{link_law}
use Rattle.foster_laws.proofs.link_law.Goals as goal

pub returns : goal.returns
returns c = link_law
