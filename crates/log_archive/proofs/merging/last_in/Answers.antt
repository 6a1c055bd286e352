use Rattle.log_archive.proofs.Merged.{last_is}
use Rattle.log_archive.proofs.merging.last_in.Goals as goal

pub returns-in-Some : goal.returns-in-Some
returns-in-Some c = last_is c.args.parts.now c.in-Some.last.now c.in-Some.ensures.value
