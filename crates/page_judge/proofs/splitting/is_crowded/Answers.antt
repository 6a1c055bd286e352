use Rattle.std.proofs.Common.{ap, sym, ◌∙◌}
use Rattle.std.specs.List.{list_any}
use Rattle.wal_record.specs.declared.page.PageState.{PageState}
use Rattle.page_judge.specs.Splitting.{is_tombstone}
use Rattle.page_judge.proofs.Leading.{crowded_leaf}
use Rattle.page_judge.proofs.splitting.is_crowded.Goals as goal

pub returns-in-Leaf : goal.returns-in-Leaf
returns-in-Leaf c = crowded_leaf c.args.image.now c.in-Leaf.rows c.any_tombstone.result
    (ap (λ (s : PageState). s.rows) (sym c.state.ensures.same) ∙ c.in-Leaf.is) (c.any_tombstone.ensures ∙ ap (list_any is_tombstone) c.as_slice.ensures)
