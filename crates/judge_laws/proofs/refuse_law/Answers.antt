use Rattle.judge_laws.proofs.Barring.{refusing}
use Rattle.judge_laws.proofs.refuse_law.Goals as goal

pub returns : goal.returns
returns c = refusing
