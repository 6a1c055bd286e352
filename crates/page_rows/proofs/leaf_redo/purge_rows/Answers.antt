use Rattle.std.proofs.Common.{sym, ap, ◌∙◌}
use Rattle.std.specs.List.{list_any}
use Rattle.page_rows.specs.Redo.{is_tombstone}
use Rattle.page_rows.proofs.Changes.{none_buried}
use Rattle.page_rows.proofs.leaf_redo.purge_rows.Goals as goal

pub returns-then-not-has_tombstone-clause-rows : goal.returns-then-not-has_tombstone-clause-rows
returns-then-not-has_tombstone-clause-rows c = none_buried c.args.rows.now (ap (list_any is_tombstone) (sym c.as_slice.ensures) ∙ sym c.has_tombstone.ensures ∙ c.if-not-has_tombstone.true)
