use Rattle.std.proofs.lemmas.Result.{err_from_is_err_and}
use Rattle.log_archive.proofs.Loops.{collect_goes_on, collect_fails, collect_is_done, kept_spelled}
use Rattle.log_archive.proofs.items.collect.Goals as goal

pub returns-in_err-item-clause-read : goal.returns-in_err-item-clause-read
returns-in_err-item-clause-read c =
    let p = err_from_is_err_and c.from_residual.result c.from_residual.ensures.1 in
    rw (p.1, p.2) (collect_fails c.args.page c.args.last c.args.count c.loop.counter c.loop.low c.loop.rest.now c.args.from c.loop.found.items c.in_err-item.field-0.0 _ c.loop-test.true c.in_err-item.ensures.read c.loop.invariant.read)

pub loop-preserved : goal.loop-preserved
loop-preserved c = record {
  read = collect_goes_on c.args.page c.args.last c.args.count c.loop.counter c.loop.low c.loop.rest.now c.args.from c.loop.found.items c.in_ok-item.item c.in_ok-item.after.now _ _ c.loop-test.true c.in_ok-item.ensures.read c.in_ok-keep.ensures.kept c.loop.invariant.read;
  spelled = kept_spelled c.args.from c.loop.found.items _ c.in_ok-item.item c.in_ok-keep.ensures.kept c.in_ok-item.ensures.spelled c.loop.invariant.spelled;
}

pub returns-clause-read : goal.returns-clause-read
returns-clause-read c = collect_is_done c.args.page c.args.last c.args.count c.loop.counter c.loop.low c.loop.rest.now c.args.from c.loop.found.items _ c.loop-test.false c.loop.invariant.read
