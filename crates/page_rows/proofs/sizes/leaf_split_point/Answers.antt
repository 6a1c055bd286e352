use Rattle.std.proofs.Common.{◌≡◌, refl, subst, length, arith}
use Rattle.wal_record.specs.State.{leaf_row_size}
use Rattle.page_rows.proofs.Splitting.{NoneBelow, half_is, split_here, split_past}
use Rattle.page_rows.proofs.sizes.leaf_split_point.Goals as goal

pub returns-then-all-kept : goal.returns-then-all-kept
returns-then-all-kept c = split_here leaf_row_size c.args.rows.now c.loop-i.i c.loop-i-test.true c.loop-i.invariant.none
    (half_is leaf_row_size c.args.rows.now c.loop-i.i _ _ c.leaf_rows_bytes-all.ensures c.loop-i.invariant.kept c.if-all-kept.true)

pub returns : goal.returns
returns c =
    let end : c.loop-i.i ≡ length c.args.rows.now = omega (arith, c.loop-i-test.false, c.loop-i.auto.i-end) in
    split_past leaf_row_size c.args.rows.now (length c.args.rows.now) refl (subst (NoneBelow leaf_row_size c.args.rows.now) end c.loop-i.invariant.none)
