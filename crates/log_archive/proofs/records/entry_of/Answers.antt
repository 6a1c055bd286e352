use Rattle.log_archive.proofs.Finding.{is_entry, none_in_all, none_more}
use Rattle.log_archive.proofs.records.entry_of.Goals as goal

pub returns-then-entry-page : goal.returns-then-entry-page
returns-then-entry-page c = (c.if-entry-page.true, is_entry c.args.entries.now c.loop-entry.entry-index (record { page = 0; count = 0; offset = 0 }) c.loop-entry-test.true)

pub loop-entry-preserved : goal.loop-entry-preserved
loop-entry-preserved c = none_more c.args.page c.args.entries.now c.loop-entry.entry-index (record { page = 0; count = 0; offset = 0 }) c.loop-entry-test.true c.if-entry-page.false c.loop-entry.invariant

pub returns : goal.returns
returns c = none_in_all c.args.page c.args.entries.now c.loop-entry.entry-index c.loop-entry-test.false c.loop-entry.invariant
