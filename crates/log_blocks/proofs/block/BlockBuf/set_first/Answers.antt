use Rattle.std.proofs.Common.{◌≡◌, arith, ap, ◌∙◌, length}
use Rattle.std.proofs.lemmas.List.{with_items_is}
use Rattle.log_blocks.specs.Log.{laid, block_of}
use Rattle.log_blocks.proofs.Laying.{laid_is, refirst}
use Rattle.log_blocks.proofs.block.BlockBuf.set_first.Goals as goal

pub put-requires : goal.put-requires
put-requires c = omega (arith, ap length c.to_be_bytes.ensures, c.self.invariant.long, ap length c.as_mut_slice.ensures.value)

pub invariant_of-self : goal.invariant_of-self
invariant_of-self c =
    let old = c.self.inside.bytes in
    let b = block_of c.self.inside.first c.self.inside.checkpoint c.self.inside.count old.items in
    let is : c.as_mut_slice.result.now ≡ laid b = c.as_mut_slice.ensures.value ∙ c.self.invariant.bytes in
    let new = refirst b c.args.first c.as_mut_slice.result.now c.to_be_bytes.result c.put.new.bytes is c.to_be_bytes.ensures c.put.ensures in
    let same : length c.put.new.bytes ≡ old.len = c.put.auto.bytes ∙ c.as_mut_slice.ensures.len in
    let back = with_items_is old c.put.new.bytes same in
    record {
      bytes = laid_is (record b { first = c.args.first }) _ (back ∙ new);
      long = omega (arith, ap length back, same, old.ok.0, c.self.invariant.long);
      node = c.self.invariant.node;
    }
