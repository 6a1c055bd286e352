use Rattle.listing_laws.specs.Summary.{with_written}
use Rattle.log_index.proofs.Places.{page_set, no_page_in}
use Rattle.log_index.proofs.heads.set_written.Goals as goal

pub returns-in-Some : goal.returns-in-Some
returns-in-Some c = page_set (with_written c.args.lsn) c.args.page c.in-Some.place c.args.heads.now.items c.index_mut-entry.result.now c.in-Some.ensures.some.0 c.index_mut-entry.ensures.value

pub returns-in_default : goal.returns-in_default
returns-in_default c = no_page_in (with_written c.args.lsn) c.args.page c.as_slice.result.now c.args.heads.now.items c.as_slice.ensures.value c.in_default.ensures.none
