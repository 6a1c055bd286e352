use Rattle.log_archive.proofs.Finding.{none_of_memory, wants_memory}
use Rattle.log_archive.proofs.records.records_in.Goals as goal

pub returns-in-Err-clause-none : goal.returns-in-Err-clause-none
returns-in-Err-clause-none c = λ first last chunks is. none_of_memory _ c.in-Err.fault (wants_memory c.args.run first last chunks c.args.bytes.now is c.ranges.run.fits c.in-Err.fault c.in-Err.ensures.refused)
