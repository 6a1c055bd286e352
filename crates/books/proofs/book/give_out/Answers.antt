use Rattle.std.proofs.Common.{sym, ap, ◌∙◌, arith}
use Rattle.books.proofs.Keeping.{splits_at}
use Rattle.books.proofs.book.give_out.Goals as goal

pub split_seat-requires : goal.split_seat-requires
split_seat-requires g c =
    let r = c.requires in
    let t = c.table.invariant in
    (r.named ∙ sym t.0, omega (arith, t.1), splits_at _ _ _ _ (ap (λ m. m.0) r.keeps))
