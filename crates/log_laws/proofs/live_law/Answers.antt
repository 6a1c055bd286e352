use Rattle.log_laws.proofs.Phases.{live_law}
use Rattle.log_laws.proofs.live_law.Goals as goal

pub returns : goal.returns
returns c = live_law
