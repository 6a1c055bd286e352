use Rattle.std.proofs.Common.{◌++◌, drop, length, ap, ◌∙◌}
use Rattle.log_blocks.proofs.Laying.{headed}
use Rattle.log_blocks.proofs.block.put_header.Goals as goal

pub returns : goal.returns
returns c =
    let first = c.to_be_bytes.ensures in
    let checkpoint = c.to_be_bytes-2.ensures in
    let count = c.to_be_bytes-3.ensures in
    let size = c.to_be_bytes-4.ensures in
    headed c.args.bytes.now _ _ _ _ _ _ _ _ (ap length first) (ap length checkpoint) (ap length count) (ap length size) c.put.ensures c.put-2.ensures c.put-3.ensures c.put-4.ensures
    ∙ (λ i. (((first i ++ checkpoint i) ++ count i) ++ size i) ++ drop 22 c.args.bytes.now)
