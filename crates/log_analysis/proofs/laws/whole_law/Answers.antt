use Rattle.log_analysis.proofs.Listed.{from_checkpoint, from_start}
use Rattle.log_analysis.proofs.laws.whole_law.Goals as goal

pub returns : goal.returns
returns c = λ checkpoint before own old new. record { from_checkpoint = from_checkpoint checkpoint before own old new; from_start = from_start own old new }
