use Rattle.std.proofs.Common.{◌++◌, ◌∷◌, [], ◌∙◌, List, length, ap, arith}
use Rattle.log_blocks.specs.Batch.{Filling}
use Rattle.log_blocks.proofs.Ready.{ready_more, at_least}
use Rattle.log_blocks.proofs.batch.Batch.reserve_short.Goals as goal

pub invariant_of-self-2 : goal.invariant_of-self-2
invariant_of-self-2 c =
    let n = length c.self.inside.spares.items in
    let len = c.self.inside.spares.ok.0 in
    let none = c.in_ok-buffer.ensures.empty in
    ready_more _ _ _ _ _ _ _ _ c.in_ok-buffer.buffer c.self.invariant c.in_ok-grow.ensures.same (at_least _ _ _ c.in_ok-grow.ensures.room (omega (arith, c.len-2.ensures, len)))
    c.in_ok-push_back.ensures.items (c.in-Ok.ensures.items ∙ ap (λ (l : List Filling). l ++ c.in_ok-buffer.buffer ∷ []) c.in_ok-reserve.ensures.items)
    (record { none = none.1; empty = none.2; room = omega (arith, c.in_ok-buffer.ensures.room, c.len-2.ensures, len) })
    (omega (arith, c.if-len-ge-MOST_BLOCKS.false, c.len-else-len-ge-MOST_SPARE.ensures.value, c.len-else-len-ge-MOST_SPARE-2.ensures.value))
    (omega (arith, c.if-len-ge-MOST_SPARE.false, c.len.ensures, len))
