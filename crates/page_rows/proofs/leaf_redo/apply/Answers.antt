use Rattle.std.proofs.Common.{ap, sym, ◌∙◌}
use Rattle.std.specs.Prelude.{is_some}
use Rattle.wal_record.specs.State.{row_of}
use Rattle.store_model.proofs.Bools.{not_both}
use Rattle.store_model.specs.Operator.{meaning}
use Rattle.wal_record.specs.Images.{with_value}
use Rattle.page_rows.specs.Redo.{with_row, CanApplyTo}
use Rattle.page_rows.proofs.Changes.{changed_ok, changed_never, placed_is, live_is}
use Rattle.page_rows.proofs.leaf_redo.apply.Goals as goal

pub returns-then-not-is_value-clause-done : goal.returns-then-not-is_value-clause-done
returns-then-not-is_value-clause-done g c =
    let a = c.args.apply.now in
    let some = c.in-Some.ensures.some in
    changed_never (CanApplyTo a) (with_value a.key (meaning a.operator a.old a.argument)) c.args.state.now (λ can.
    not_both _ (c.is_value.ensures.1 (c.live_in.ensures ∙ live_is a.key c.args.state.now some.0 c.requires c.in-Some.spot some.1 ∙ can.0.value)) c.if-not-is_value.true)

pub returns-clause-done : goal.returns-clause-done
returns-clause-done g c =
    let a = c.args.apply.now in
    let some = c.in-Some.ensures.some in
    changed_ok (CanApplyTo a) (with_row c.row_of.result c.in-Some.spot) (with_value a.key (meaning a.operator a.old a.argument)) c.args.state.now c.put_row.new.state
    (record { at = some.0; value = sym (c.live_in.ensures ∙ live_is a.key c.args.state.now some.0 c.requires c.in-Some.spot some.1) ∙ c.is_value.ensures.0 c.if-not-is_value.false }, ap is_some (sym c.made_by-made.ensures) ∙ c.if-is_none.ensures)
    (ap (λ row. with_row row c.in-Some.spot c.args.state.now) (c.row_of.ensures ∙ ap (row_of a.key) c.made_by-made.ensures) ∙ placed_is a.key c.args.state.now some.0 c.requires (meaning a.operator a.old a.argument) c.in-Some.spot some.1) c.put_row.result c.put_row.ensures.done
