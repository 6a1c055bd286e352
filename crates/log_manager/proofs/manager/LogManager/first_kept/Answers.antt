use Rattle.std.proofs.Common.{ap, ◌∙◌, arith}
use Rattle.log_manager.specs.Managed.{Managed, first_kept}
use Rattle.log_manager.proofs.Finding.{first_none}
use Rattle.log_manager.proofs.manager.LogManager.first_kept.Goals as goal

pub returns-then-blocks-eq0 : goal.returns-then-blocks-eq0
returns-then-blocks-eq0 g c =
    c.next.ensures ∙ first_none c.self.inside.log c.self.inside.batch.blocks (omega (arith, c.if-blocks-eq0.true, c.blocks-2.ensures))
    ∙ ap (λ (m : Managed _). first_kept m.log) c.self.view_is
