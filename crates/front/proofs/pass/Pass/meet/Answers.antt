use Rattle.std.proofs.Common.{sym, ap, ◌∙◌, arith}
use Rattle.front.proofs.Keeping.{joins, looks_at}
use Rattle.front.proofs.pass.Pass.meet.Goals as goal

pub join_seat-requires : goal.join_seat-requires
join_seat-requires g c =
    let i = c.self.invariant in
    let b = c.board.invariant in
    let o = c.into_seat.ensures in
    (i.0 ∙ sym b.0, o.named ∙ sym b.0, ap (λ m. m.1) o.follows, omega (arith, b.1), joins _ _ _ _)

pub load-requires : goal.load-requires
load-requires g c =
    let i = c.self.invariant in
    let b = c.board.invariant in
    let j = c.join_seat.ensures in
    (j.0 ∙ i.0 ∙ sym b.0, omega (arith, b.1), looks_at _ _ _ (ap (λ m. m.0.leads) j.2 ∙ ap (λ m. m.0.leads) i.1) (ap (λ m. m.0.marks) j.2 ∙ ap (λ m. m.0.marks) i.1) (ap (λ m. m.1) j.2 ∙ ap (λ m. m.1) i.1))
