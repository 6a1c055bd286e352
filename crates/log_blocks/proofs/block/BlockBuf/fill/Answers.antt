use Rattle.std.proofs.Common.{ap, sym, arith, length, ◌∙◌}
use Rattle.log_blocks.specs.Log.{laid}
use Rattle.log_blocks.specs.Batch.{begun}
use Rattle.log_blocks.proofs.Laying.{block_is, laid_is, long_enough}
use Rattle.log_blocks.proofs.block.BlockBuf.fill.Goals as goal

pub invariant_of-self : goal.invariant_of-self
invariant_of-self c =
    let same = sym c.block.view_is in
    let b = begun c.block.inside.count c.block.inside.checkpoint c.args.block.payload in
    let is = c.laid_out.ensures ∙ (λ i. laid (begun (same i).count (same i).checkpoint c.args.block.payload)) in
    record {
      bytes = laid_is b _ is;
      long = omega (arith, long_enough b, ap length is);
      node = c.self.invariant.node;
    }

pub returns : goal.returns
returns c =
    let same = sym c.block.view_is in
    let b = begun c.block.inside.count c.block.inside.checkpoint c.args.block.payload in
    block_is b _ (c.laid_out.ensures ∙ (λ i. laid (begun (same i).count (same i).checkpoint c.args.block.payload)))
    ∙ (λ i. begun (c.block.view_is i).count (c.block.view_is i).checkpoint c.args.block.payload)
