use Rattle.std.proofs.Common.{ap, sym, ◌∙◌}
use Rattle.std.specs.Prelude.{List, ℕ, Option, is_some, ◌||◌}
use Rattle.store_model.proofs.Bools.{not_both}
use Rattle.wal_record.specs.Images.{CanUndo, with_value}
use Rattle.page_rows.specs.Redo.{with_row}
use Rattle.page_rows.proofs.Changes.{changed_ok, changed_never, placed_is, live_is}
use Rattle.page_rows.proofs.leaf_redo.undo.Goals as goal

pub returns-then-not-is_change-clause-done : goal.returns-then-not-is_change-clause-done
returns-then-not-is_change-clause-done c =
    let u = c.args.undo.now in
    let some = c.in-Some.ensures.some in
    changed_never (CanUndo u.key u.restores) (with_value u.key u.restores) c.args.state.now (λ can.
    not_both _ (c.is_change.ensures ∙ ap (λ (v : Option (List ℕ)). is_some u.restores || is_some v) (c.live_in.ensures ∙ live_is u.key c.args.state.now some.0 c.requires c.in-Some.spot some.1) ∙ can.there) c.if-not-is_change.true)

pub returns-clause-done : goal.returns-clause-done
returns-clause-done c =
    let u = c.args.undo.now in
    let some = c.in-Some.ensures.some in
    changed_ok (CanUndo u.key u.restores) (with_row c.row_of.result c.in-Some.spot) (with_value u.key u.restores) c.args.state.now c.put_row.new.state
    (record { at = some.0; there = sym (c.is_change.ensures ∙ ap (λ (v : Option (List ℕ)). is_some u.restores || is_some v) (c.live_in.ensures ∙ live_is u.key c.args.state.now some.0 c.requires c.in-Some.spot some.1)) ∙ c.if-not-is_change.false })
    (ap (λ row. with_row row c.in-Some.spot c.args.state.now) c.row_of.ensures ∙ placed_is u.key c.args.state.now some.0 c.requires u.restores c.in-Some.spot some.1) c.put_row.result c.put_row.ensures.done
