use Rattle.log_blocks.proofs.Unique as laws
use Rattle.log_blocks.proofs.laws.one_log.Goals as goal

pub returns : goal.returns
returns c = laws.one_log
