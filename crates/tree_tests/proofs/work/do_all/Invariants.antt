use Rattle.std.proofs.Common.{◌≡◌}
use Rattle.tree_tests.proofs.work.do_all.Given as goal

abbrev pub invariant-loop-step : goal.invariant-loop-step
invariant-loop-step g l = (g.P.Pages.desk l.pages).out ≡ 0
