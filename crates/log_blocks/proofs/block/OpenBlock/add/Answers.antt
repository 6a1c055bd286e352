use Rattle.std.proofs.Common.{◌++◌, ◌+◌, ◌-◌, ℕ, List, ap, ◌∙◌, drop}
use Rattle.std.specs.Prelude.{vec_len, vec_capacity}
use Rattle.std.proofs.lemmas.List.{drop-append-le}
use Rattle.log_blocks.proofs.block.OpenBlock.add.Goals as goal

pub returns-clause-records : goal.returns-clause-records
returns-clause-records c =
    let same = c.self.view_is in
    let payload = ap (λ (l : List ℕ). drop 22 l) c.in-Ok.ensures.items ∙ drop-append-le 22 c.self.inside.bytes.items c.args.records.now c.self.invariant.0 in
    λ i. record {
      checkpoint = c.args.checkpoint;
      count = (same i).count + c.args.count;
      payload = (payload ∙ (λ j. (same j).payload ++ c.args.records.now)) i;
      room = vec_capacity c.extend_from_slice.new.self - (vec_len c.extend_from_slice.new.self + 1);
    }
