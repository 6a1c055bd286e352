use Rattle.std.proofs.Common.{arith}
use Rattle.log_archive.proofs.Again.{number_below, pages_are, total_size}
use Rattle.log_archive.proofs.Finding.{size_of_memory, wants_memory}
use Rattle.log_archive.proofs.records.size_of.Goals as goal

pub returns-in-Ok-clause-found : goal.returns-in-Ok-clause-found
returns-in-Ok-clause-found c = λ first last chunks is.
    let r = number_below c.args.run c.requires.run in
    let pages = pages_are c.args.run first last chunks c.args.bytes.now is r c.in-Ok.outline c.in-Ok.ensures.outline in
    let total = total_size c.args.run first last chunks c.args.bytes.now is in
    omega (arith, pages, total)

pub returns-in-Err-clause-found : goal.returns-in-Err-clause-found
returns-in-Err-clause-found c = λ first last chunks is. size_of_memory chunks c.in-Err.fault (wants_memory c.args.run first last chunks c.args.bytes.now is (number_below c.args.run c.requires.run) c.in-Err.fault c.in-Err.ensures.refused)
