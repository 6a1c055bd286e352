use Rattle.std.proofs.Common.{ap, ◌∙◌, arith}
use Rattle.front.proofs.Keeping.{parted, splits}
use Rattle.front.proofs.count.Count.split.Goals as goal

pub split_seat-requires : goal.split_seat-requires
split_seat-requires g c =
    let i = c.self.invariant in
    (i.1, omega (arith, i.0), parted _ _ (ap (λ m. m.0) i.2))

pub split_seat-requires-2 : goal.split_seat-requires-2
split_seat-requires-2 g c =
    let i = c.self.invariant in
    (c.split_seat.ensures.0 ∙ i.1, omega (arith, i.0), splits _ _)
