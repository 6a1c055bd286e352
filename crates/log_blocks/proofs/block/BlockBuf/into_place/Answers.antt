use Rattle.std.proofs.Common.{◌≡◌, ◌-◌, take, drop, ◌∷◌, [], length, ap, ◌∙◌, arith}
use Rattle.log_blocks.specs.Log.{Block}
use Rattle.log_blocks.proofs.Laying.{length-payload, set_one}
use Rattle.log_blocks.proofs.block.BlockBuf.into_place.Goals as goal

pub overflow_sub-place : goal.overflow_sub-place
overflow_sub-place c = omega (arith, c.len.ensures, c.self.inside.bytes.ok.0, c.self.invariant.long)

pub overflow_cast-place : goal.overflow_cast-place
overflow_cast-place c =
    let size = ap (λ (b : Block). length b.payload) c.self.view_is in
    omega (arith, c.len.ensures, c.self.inside.bytes.ok.0, length-payload c.self.inside.bytes.items c.self.invariant.long, size, c.requires)

pub returns : goal.returns
returns c =
    let size : c.len.result - 23 ≡ length (take (length c.self.inside.bytes.items - 23) (drop 22 c.self.inside.bytes.items)) =
    omega (arith, c.len.ensures, c.self.inside.bytes.ok.0, length-payload c.self.inside.bytes.items c.self.invariant.long) in
    set_one c.self.inside.node _ c.self.invariant.node
    ∙ (λ i. (record { at = c.args.at; first = (c.self.view_is i).first; checkpoint = (c.self.view_is i).checkpoint; count = (c.self.view_is i).count; length = (size ∙ ap (λ (b : Block). length b.payload) c.self.view_is) i }) ∷ [])
