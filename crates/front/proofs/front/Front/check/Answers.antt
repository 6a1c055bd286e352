use Rattle.std.proofs.Common.{sym, ap, ◌∙◌, arith}
use Rattle.front.specs.Counting.{informed}
use Rattle.front.proofs.Keeping.{joins, checks_at}
use Rattle.front.proofs.front.Front.check.Goals as goal

pub join_seat-requires : goal.join_seat-requires
join_seat-requires g c =
    let i = c.self.invariant in
    let b = c.board.invariant in
    let o = c.into_seat.ensures in
    (i.0 ∙ sym b.0, o.named ∙ sym b.0, ap (λ m. m.1) o.follows, omega (arith, b.1), joins _ _ _ _)

pub load-requires : goal.load-requires
load-requires g c =
    let i = c.self.invariant in
    let b = c.board.invariant in
    let j = c.join_seat.ensures in
    let now = j.2 ∙ ap (λ m. (informed m.0 c.into_seat.result.me.0, m.1)) i.1 in
    (j.0 ∙ i.0 ∙ sym b.0, omega (arith, b.1), checks_at _ _ _ _ _ _ _ now)
