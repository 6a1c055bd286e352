use Rattle.std.proofs.Common.{arith}
use Rattle.restart.proofs.Bits.{plan_length}
use Rattle.restart.proofs.plan.RestartPlan.place_of.Goals as goal

pub returns-then-place-self-clause-inside : goal.returns-then-place-self-clause-inside
returns-then-place-self-clause-inside c = let l = plan_length _ _ _ c.self.view_is in let t = c.if-place-self.true in omega (arith, l, t)

pub returns-else-place-self-clause-outside : goal.returns-else-place-self-clause-outside
returns-else-place-self-clause-outside c = λ some. let l = plan_length _ _ _ c.self.view_is in let f = c.if-place-self.false in let e = c.in_ok-place.ensures in omega (arith, l, f, e, some)
