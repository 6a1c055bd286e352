use Rattle.std.proofs.lemmas.Result.{err_from_is_err_and}
use Rattle.log_archive.specs.Reading.{entry_at}
use Rattle.state_codec.proofs.Items.{goes_on, ends, is_done}
use Rattle.log_archive.proofs.head.entries_at.Goals as goal

pub returns-in_err-item : goal.returns-in_err-item
returns-in_err-item c =
    let p = err_from_is_err_and c.from_residual.result c.from_residual.ensures.1 in
    rw (p.1, p.2) (ends entry_at c.in_err-item.field-0.0 c.loop.found c.args.count c.loop.counter c.loop.rest.now _ c.loop-test.true (rw (← c.as_slice.ensures) c.in_err-item.ensures) c.loop.invariant)

pub loop-preserved : goal.loop-preserved
loop-preserved c =
    rw c.in_ok-push.ensures.ok (goes_on entry_at c.loop.found c.args.count c.loop.counter c.loop.rest.now c.in_ok-item.item c.in_ok-item.after.now _ c.loop-test.true (rw (← c.as_slice.ensures) c.in_ok-item.ensures) c.loop.invariant)

pub returns : goal.returns
returns c = is_done entry_at c.loop.found c.args.count c.loop.counter c.loop.rest.now _ c.loop-test.false c.loop.invariant
