use Rattle.std.proofs.Common.{sym, ap, ◌∙◌, arith}
use Rattle.front.proofs.Keeping.{reads_at}
use Rattle.front.proofs.pass.Pass.durable.Goals as goal

pub load-requires : goal.load-requires
load-requires g c =
    let i = c.self.invariant in
    let b = c.board.invariant in
    (i.0 ∙ sym b.0, omega (arith, b.1), reads_at _ _ _ (ap (λ m. m.0.leads) i.1) (ap (λ m. m.0.marks) i.1) (ap (λ m. m.1) i.1))
