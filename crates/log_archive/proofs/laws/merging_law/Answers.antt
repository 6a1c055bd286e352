use Rattle.log_archive.proofs.Made.{merged_is}
use Rattle.log_archive.proofs.laws.merging_law.Goals as goal

pub returns : goal.returns
returns c = merged_is
