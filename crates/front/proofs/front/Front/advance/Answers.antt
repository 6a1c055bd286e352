use Rattle.std.proofs.Common.{sym, ◌∙◌, arith}
use Rattle.front.proofs.Keeping.{advances_at}
use Rattle.front.proofs.front.Front.advance.Goals as goal

pub fetch_add-requires : goal.fetch_add-requires
fetch_add-requires g c =
    let i = c.self.invariant in
    let b = c.board.invariant in
    (i.0 ∙ sym b.0, omega (arith, b.1), advances_at _ _ _ _ _ i.1 c.requires.many (rw c.self.view_is c.requires.fits))
