use Rattle.std.proofs.Common.{sym, ◌∙◌, arith}
use Rattle.front.proofs.Keeping.{stores_at}
use Rattle.front.proofs.mark.Mark.store.Goals as goal

pub store-requires : goal.store-requires
store-requires g c =
    let i = c.self.invariant in
    let b = c.board.invariant in
    (i.0 ∙ sym b.0, omega (arith, b.1), stores_at _ _ _ _ i.1 (rw c.self.view_is c.requires.rises))
