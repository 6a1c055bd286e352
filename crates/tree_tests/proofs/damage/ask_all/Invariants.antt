use Rattle.std.proofs.Common.{◌≡◌}
use Rattle.tree_tests.proofs.damage.ask_all.Given as goal

abbrev pub invariant-loop-way : goal.invariant-loop-way
invariant-loop-way g l = (g.P.Pages.desk l.pages.pages).out ≡ 0
