use Rattle.log_blocks.proofs.Excludes as laws
use Rattle.log_blocks.proofs.laws.never_bad.Goals as goal

pub returns : goal.returns
returns c = laws.never_bad
