use Rattle.std.proofs.Common.{sym, ◌∙◌, refl, arith}
use Rattle.books.proofs.Keeping.{changes_at}
use Rattle.books.proofs.book.change.Goals as goal

pub load-requires : goal.load-requires
load-requires g c =
    let r = c.requires in
    let t = c.table.invariant in
    (r.named ∙ sym t.0, omega (arith, t.1), rw r.written (changes_at _ _ _ _ _ _ r.keeps refl))
