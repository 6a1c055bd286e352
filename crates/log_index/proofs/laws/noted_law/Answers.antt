use Rattle.log_index.proofs.NotedLaws.{noted_kept}
use Rattle.log_index.proofs.laws.noted_law.Goals as goal

pub returns : goal.returns
returns c = noted_kept
