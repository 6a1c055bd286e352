use Rattle.std.proofs.Common.{◌∙◌}
use Rattle.page_rows.specs.Redo.{placed}
use Rattle.leaf_writes.proofs.ChangedLeaf.{row_in}
use Rattle.leaf_writes.proofs.placing.with_row.Goals as goal

pub returns : goal.returns
returns c =
    let rows_is = c.from_vec.ensures ∙ c.place.ensures ∙ (λ i. placed (c.row_of-row.ensures.is i) c.search-spot.result ((c.in_ok-reserve.ensures.items ∙ c.taken_rows-rows.ensures) i)) in
    row_in c.args.key.now c.args.value.now c.args.state c.search-spot.result _ c.requires.keeps c.requires.leaf c.search-spot.ensures.spot rows_is
