use Rattle.std.proofs.Common.{◌≡◌}
use Rattle.tree_tests.proofs.steps.change_all.Given as goal

abbrev pub invariant-loop-number : goal.invariant-loop-number
invariant-loop-number g l = (g.P.Pages.desk l.pages).out ≡ 0
