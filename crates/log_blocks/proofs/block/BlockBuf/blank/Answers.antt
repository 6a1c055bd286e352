use Rattle.std.proofs.Common.{◌∙◌, [], ap, arith, length}
use Rattle.log_blocks.specs.Log.{laid}
use Rattle.log_blocks.specs.Batch.{begun}
use Rattle.log_blocks.proofs.Laying.{block_is, laid_is, long_enough}
use Rattle.log_blocks.proofs.block.BlockBuf.blank.Goals as goal

pub invariant_of-result : goal.invariant_of-result
invariant_of-result c =
    let none = c.in_ok-new.ensures.empty in
    let is = c.laid_out-bytes.ensures ∙ (λ i. laid (begun (none.1 i) (none.0 i) (none.2 i))) in
    record {
      bytes = laid_is (begun 0 0 []) _ is;
      long = omega (arith, long_enough (begun 0 0 []), ap length is);
      node = c.in_ok-node.ensures;
    }

pub returns : goal.returns
returns c =
    let none = c.in_ok-new.ensures.empty in
    block_is (begun 0 0 []) _ (c.laid_out-bytes.ensures ∙ (λ i. laid (begun (none.1 i) (none.0 i) (none.2 i))))
