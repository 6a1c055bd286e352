use Rattle.std.proofs.lemmas.Result.{err_from_is_err_and}
use Rattle.log_archive.proofs.Loops.{behind_goes_on, behind_fails, behind_is_done}
use Rattle.log_archive.proofs.items.behind_items.Goals as goal

pub returns-in_err-item : goal.returns-in_err-item
returns-in_err-item c =
    let p = err_from_is_err_and c.from_residual.result c.from_residual.ensures.1 in
    rw (p.1, p.2) (behind_fails c.args.page c.args.last c.args.count c.loop.counter c.loop.low c.loop.rest.now c.in_err-item.field-0.0 _ c.loop-test.true c.in_err-item.ensures.read c.loop.invariant)

pub loop-preserved : goal.loop-preserved
loop-preserved c = behind_goes_on c.args.page c.args.last c.args.count c.loop.counter c.loop.low c.loop.rest.now c.in_ok-item.item c.in_ok-item.after.now _ c.loop-test.true c.in_ok-item.ensures.read c.loop.invariant

pub returns : goal.returns
returns c = behind_is_done c.args.page c.args.last c.args.count c.loop.counter c.loop.low c.loop.rest.now _ c.loop-test.false c.loop.invariant
