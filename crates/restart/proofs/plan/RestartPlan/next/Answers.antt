use Rattle.std.proofs.Common.{List, ℕ, Some, None, subst}
use Rattle.restart.specs.Plans.{IsNextFlag}
use Rattle.restart.proofs.Bits.{next_none, next_there}
use Rattle.restart.proofs.plan.RestartPlan.next.Goals as goal

pub returns-in_err-place : goal.returns-in_err-place
returns-in_err-place c =
    rw c.from_residual.ensures
    (next_none c.args.self.now c.self.inside.pages c.self.inside.words.items c.self.view_is c.args.after
    (subst (λ (ws : List ℕ). IsNextFlag ws c.args.after c.self.inside.pages None) c.as_slice.ensures.value c.in_err-place.ensures))

pub returns : goal.returns
returns c =
    next_there c.args.self.now c.self.inside.pages c.self.inside.words.items c.self.view_is c.args.after c.in_ok-place.place
    (subst (λ (ws : List ℕ). IsNextFlag ws c.args.after c.self.inside.pages (Some c.in_ok-place.place)) c.as_slice.ensures.value c.in_ok-place.ensures)
