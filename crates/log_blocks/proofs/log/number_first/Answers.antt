use Rattle.std.proofs.Common.{◌≡◌, ◌∷◌, [], List, ap, ◌∙◌, arith, get_or, set, length, length-append}
use Rattle.log_blocks.specs.Log.{Block, body, laid}
use Rattle.log_blocks.proofs.Numbering.{with_first}
use Rattle.log_blocks.proofs.Whole.{length-block}
use Rattle.log_blocks.proofs.log.number_first.Goals as goal

pub returns : goal.returns
returns c b rest is =
    let here : c.in-Some.block.now ≡ b = c.in-Some.ensures.value ∙ ap (λ (l : List Block). get_or l 0 c.in-Some.block.now) is in
    let new : c.set_first.new.self ≡ with_first c.args.next b = c.set_first.ensures ∙ ap (with_first c.args.next) here in (
      ap (λ (l : List Block). set l 0 c.set_first.new.self) is ∙ ap (λ (x : Block). x ∷ rest) new,
      c.count.ensures ∙ ap (λ (x : Block). x.count) new,
      omega (arith, ap length c.bytes.ensures, ap (λ (x : Block). length (laid x)) new, length-block b, length-block (with_first c.args.next b), length-append (body b) (0 ∷ []), length-append (body (with_first c.args.next b)) (0 ∷ [])),
    )
