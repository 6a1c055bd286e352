use Rattle.std.proofs.Common.{arith}
use Rattle.media_mem.proofs.Paging.{newest_kept, spoiled_beyond, spoiled_kept, spoiled_set}
use Rattle.media_mem.proofs.pages.spoil_slot.Goals as goal

pub returns-then-page-len-clause-newest : goal.returns-then-page-len-clause-newest
returns-then-page-len-clause-newest c p =
    newest_kept c.args.slots.now.items c.args.page p c.index_mut.result.now _ (omega (arith, c.if-page-len.true, c.len.ensures, c.args.slots.now.ok.0)) c.index_mut.ensures.value c.spoil_one.ensures.image

pub returns-then-page-len-clause-spoiled : goal.returns-then-page-len-clause-spoiled
returns-then-page-len-clause-spoiled c = spoiled_set c.args.slots.now.items c.args.page _ c.spoil_one.ensures.lost

pub returns-then-page-len-clause-others : goal.returns-then-page-len-clause-others
returns-then-page-len-clause-others c p lost = spoiled_kept c.args.slots.now.items c.args.page p _ c.spoil_one.ensures.lost lost

pub returns-else-page-len-clause-spoiled : goal.returns-else-page-len-clause-spoiled
returns-else-page-len-clause-spoiled c = spoiled_beyond c.args.slots.now.items c.args.page (omega (arith, c.if-page-len.false, c.len.ensures, c.args.slots.now.ok.0))
