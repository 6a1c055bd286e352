use Rattle.std.proofs.Common.{sym, ◌∙◌, arith}
use Rattle.books.proofs.Keeping.{adds_at}
use Rattle.books.proofs.book.add.Goals as goal

pub load-requires : goal.load-requires
load-requires g c =
    let r = c.requires in
    let t = c.table.invariant in
    (r.named ∙ sym t.0, omega (arith, t.1), rw r.written (adds_at _ _ _ _ _ r.keeps r.fresh))
