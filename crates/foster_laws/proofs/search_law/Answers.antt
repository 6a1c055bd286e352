use Rattle.foster_laws.proofs.Searching.{search_law}
use Rattle.foster_laws.proofs.search_law.Goals as goal

pub returns : goal.returns
returns c = search_law
