use Rattle.std.proofs.Common.{sym, ◌∙◌, arith}
use Rattle.front.proofs.Keeping.{splits}
use Rattle.front.proofs.mark.Mark.tell.Goals as goal

pub split_seat-requires : goal.split_seat-requires
split_seat-requires g c =
    let b = c.board.invariant in
    (c.self.invariant.0 ∙ sym b.0, omega (arith, b.1), splits _ _)
