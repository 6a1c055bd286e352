use Rattle.command_laws.proofs.Right.{right_law}
use Rattle.command_laws.proofs.right_law.Goals as goal

pub returns : goal.returns
returns c = right_law
