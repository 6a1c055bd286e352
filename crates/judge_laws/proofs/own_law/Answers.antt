use Rattle.judge_laws.proofs.Owners.{own}
use Rattle.judge_laws.proofs.own_law.Goals as goal

pub returns : goal.returns
returns c = own
