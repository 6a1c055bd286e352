use Rattle.std.proofs.lemmas.Result.{err_from_is_err_and}
use Rattle.wal_record.specs.State.{leaf_row_size}
use Rattle.wal_record.specs.Reading.{leaf_row_at}
use Rattle.state_codec.proofs.Items.{goes_on, ends, is_done}
use Rattle.state_codec.proofs.Taken.{one_more}
use Rattle.state_codec.proofs.rows.leaf_rows.Goals as goal

pub returns-in_err-item : goal.returns-in_err-item
returns-in_err-item c =
    let p = err_from_is_err_and c.from_residual.result c.from_residual.ensures.1 in
    rw (p.1, p.2) (ends (leaf_row_at (record { low = c.args.low.now; high = c.args.end.now }) c.args.used) c.in_err-item.field-0.0 c.loop.found c.args.count c.loop.counter c.loop.rest.now _ c.loop-test.true (rw (← c.as_slice.ensures) c.in_err-item.ensures.row) c.loop.invariant.same)

pub loop-preserved : goal.loop-preserved
loop-preserved c = record {
  same = rw c.in_ok-push.ensures.ok (goes_on (leaf_row_at (record { low = c.args.low.now; high = c.args.end.now }) c.args.used) c.loop.found c.args.count c.loop.counter c.loop.rest.now c.in_ok-item.item c.in_ok-item.after.now _ c.loop-test.true (rw (← c.as_slice.ensures) c.in_ok-item.ensures.row) c.loop.invariant.same);
  taken = rw (c.in_ok-push.ensures.ok, c.leaf_row_bytes-taken.ensures.size) (one_more leaf_row_size c.loop.found c.in_ok-item.item c.loop.taken c.args.used c.loop.invariant.taken);
  small = rw c.leaf_row_bytes-taken.ensures.size c.in_ok-item.ensures.size;
}

pub returns : goal.returns
returns c = is_done (leaf_row_at (record { low = c.args.low.now; high = c.args.end.now }) c.args.used) c.loop.found c.args.count c.loop.counter c.loop.rest.now _ c.loop-test.false c.loop.invariant.same
