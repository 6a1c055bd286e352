use Rattle.foster_laws.proofs.Scanning.{chain_law}
use Rattle.foster_laws.proofs.chain_law.Goals as goal

pub returns : goal.returns
returns c = chain_law
