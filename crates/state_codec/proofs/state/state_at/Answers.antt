use Rattle.std.proofs.lemmas.Result.{err_from_is_err_and}
use Rattle.state_codec.proofs.StateAt.{no_rows, with_rows}
use Rattle.state_codec.proofs.state.state_at.Goals as goal

pub returns-in_err-rows : goal.returns-in_err-rows
returns-in_err-rows c =
    let p = err_from_is_err_and c.from_residual-in_err-rows.result c.from_residual-in_err-rows.ensures.1 in
    rw (p.1, p.2) (
    no_rows c.args.bytes.now c.in_ok-level.level c.in_ok-level.rest.now c.in_ok-low.low c.in_ok-low.rest.now c.in_ok-high.high c.in_ok-high.rest.now c.in_ok-foster.foster c.in_ok-foster.rest.now
    c.in_ok-level.ensures c.in_ok-low.ensures c.in_ok-high.ensures c.in_ok-foster.ensures
    c.size_without_rows-used.result c.bound_of-low.result c.end_of-end.result (c.size_without_rows-used.ensures.size c.in_ok-level.level) c.bound_of-low.ensures c.end_of-end.ensures
    c.in_err-rows.field-0.0 c.in_err-rows.ensures)

pub returns : goal.returns
returns c =
    with_rows c.args.bytes.now c.in_ok-level.level c.in_ok-level.rest.now c.in_ok-low.low c.in_ok-low.rest.now c.in_ok-high.high c.in_ok-high.rest.now c.in_ok-foster.foster c.in_ok-foster.rest.now
    c.in_ok-level.ensures c.in_ok-low.ensures c.in_ok-high.ensures c.in_ok-foster.ensures
    c.size_without_rows-used.result c.bound_of-low.result c.end_of-end.result (c.size_without_rows-used.ensures.size c.in_ok-level.level) c.bound_of-low.ensures c.end_of-end.ensures
    c.bound_or_top.result c.in_ok-rows.rows c.in_ok-rows.rest.now c.bound_or_top.ensures c.in_ok-rows.ensures
