use Rattle.std.proofs.Common.{sym, ap, ◌∙◌, arith}
use Rattle.books.proofs.Keeping.{joins_at}
use Rattle.books.proofs.book.Book.set.Goals as goal

pub join_seat-requires : goal.join_seat-requires
join_seat-requires g c =
    let i = c.self.invariant in
    let t = c.table.invariant in
    let r = c.right.invariant in
    (i.0 ∙ sym t.0, r.0 ∙ sym t.0, ap (λ m. m.1) r.1, omega (arith, t.1), joins_at _ _ _ _ _ _ (ap (λ m. m.0) i.1) (ap (λ m. m.0) r.1))
