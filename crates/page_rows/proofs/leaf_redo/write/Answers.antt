use Rattle.std.proofs.Common.{ap, sym, ◌∙◌}
use Rattle.store_model.proofs.Bools.{not_both}
use Rattle.wal_record.specs.Images.{CanWrite, with_value}
use Rattle.page_rows.specs.Redo.{with_row}
use Rattle.page_rows.proofs.Changes.{changed_ok, changed_never, placed_is, live_is}
use Rattle.page_rows.proofs.leaf_redo.write.Goals as goal

pub returns-then-not-is_value-clause-done : goal.returns-then-not-is_value-clause-done
returns-then-not-is_value-clause-done c =
    let w = c.args.write.now in
    let some = c.in-Some.ensures.some in
    changed_never (CanWrite w.key w.old) (with_value w.key w.new) c.args.state.now (λ can.
    not_both _ (c.is_value.ensures.1 (c.live_in.ensures ∙ live_is w.key c.args.state.now some.0 c.requires c.in-Some.spot some.1 ∙ can.value)) c.if-not-is_value.true)

pub returns-clause-done : goal.returns-clause-done
returns-clause-done c =
    let w = c.args.write.now in
    let some = c.in-Some.ensures.some in
    changed_ok (CanWrite w.key w.old) (with_row c.row_of.result c.in-Some.spot) (with_value w.key w.new) c.args.state.now c.put_row.new.state
    (record { at = some.0; value = sym (c.live_in.ensures ∙ live_is w.key c.args.state.now some.0 c.requires c.in-Some.spot some.1) ∙ c.is_value.ensures.0 c.if-not-is_value.false })
    (ap (λ row. with_row row c.in-Some.spot c.args.state.now) c.row_of.ensures ∙ placed_is w.key c.args.state.now some.0 c.requires w.new c.in-Some.spot some.1) c.put_row.result c.put_row.ensures.done
