use Rattle.std.proofs.Common.{ap, arith, ◌∙◌}
use Rattle.media.specs.Fused.{Fused, one_more}
use Rattle.media.proofs.Refusing.{refused_cause}
use Rattle.media.proofs.fuse.FusePageDevice.replace.Goals as goal

pub returns-in_err-pass-clause-cause : goal.returns-in_err-pass-clause-cause
returns-in_err-pass-clause-cause g c =
    refused_cause g.D.PageDevice.faults _ _ _ (omega (arith, c.self.invariant, ap (λ (f : Fused _). f.refused) c.self.view_is)) (ap (λ (f : Fused _). f.inner) c.self.view_is) (c.in_err-pass.ensures.err.2 ∙ ap (λ (f : Fused _). one_more f.refused) c.self.view_is)
