use Rattle.log_analysis.proofs.Listed.{both}
use Rattle.log_analysis.proofs.laws.next_law.Goals as goal

pub returns : goal.returns
returns c = λ checkpoint first own more old now new. record { both = both checkpoint first own more old now new }
