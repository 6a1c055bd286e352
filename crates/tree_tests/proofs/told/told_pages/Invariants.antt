use Rattle.std.proofs.Common.{◌≡◌}
use Rattle.tree_tests.proofs.told.told_pages.Given as goal

abbrev pub invariant-loop-page : goal.invariant-loop-page
invariant-loop-page g l = (g.P.Pages.desk l.pages).out ≡ 0
