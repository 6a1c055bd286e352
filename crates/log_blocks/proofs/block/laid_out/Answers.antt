use Rattle.std.proofs.Common.{◌≡◌, ◌-◌, ◌∷◌, ◌++◌, [], ℕ, List, arith, ap, length, drop, sym, ◌∙◌, refl, length-drop}
use Rattle.std.proofs.lemmas.List.{with_items_is}
use Rattle.log_blocks.specs.Log.{laid}
use Rattle.log_blocks.specs.Batch.{Filling, begun}
use Rattle.log_blocks.proofs.Laying.{filled}
use Rattle.log_blocks.proofs.block.laid_out.Goals as goal

pub returns : goal.returns
returns c =
    let b = begun c.block.inside.count c.block.inside.checkpoint c.args.block.payload in
    let old = c.block.inside.bytes in
    let payload : c.args.block.payload ≡ drop 22 old.items = sym (ap (λ (f : Filling). f.payload) c.block.view_is) in
    let slice = c.as_mut_slice.ensures.value in
    let size : c.len.result - 22 ≡ length c.args.block.payload = omega (arith, c.len.ensures, old.ok.0, ap length payload, length-drop 22 old.items) in
    let same : length c.put_header.new.bytes ≡ old.len = c.put_header.auto.bytes ∙ c.as_mut_slice.ensures.len in
    filled b c.as_mut_slice.result.now c.put_header.new.bytes _ (c.len.result - 22) refl (payload ∙ ap (λ (l : List ℕ). drop 22 l) (sym slice)) size
    c.put_header.ensures (c.in-Ok.ensures.items ∙ ap (λ (l : List ℕ). l ++ 0 ∷ []) (with_items_is old c.put_header.new.bytes same))
    ∙ (λ i. laid (begun (c.block.view_is i).count (c.block.view_is i).checkpoint c.args.block.payload))
