use Rattle.std.proofs.Common.{List, ℕ, arith, ap, sym, ◌∙◌}
use Rattle.restart.specs.Plans.{flag_at}
use Rattle.restart.proofs.Bits.{plan_at, plan_length, plan_outside}
use Rattle.restart.proofs.plan.RestartPlan.awaits_redo.Goals as goal

pub flag-requires : goal.flag-requires
flag-requires c = rw c.as_slice.ensures.value (let l = plan_length _ _ _ c.self.view_is in let v = c.self.invariant in let i = c.in-Some.ensures.inside in omega (arith, l, v, i))

pub returns-in-Some : goal.returns-in-Some
returns-in-Some c = c.flag.ensures ∙ ap (λ (ws : List ℕ). flag_at ws c.in-Some.place) c.as_slice.ensures.value ∙ plan_at _ _ c.in-Some.place _ _ c.self.view_is c.in-Some.ensures.page c.in-Some.ensures.inside

pub returns-in-None : goal.returns-in-None
returns-in-None c = sym (plan_outside _ _ c.in-None.ensures.outside)
