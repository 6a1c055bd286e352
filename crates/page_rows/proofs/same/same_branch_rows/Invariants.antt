use Rattle.std.proofs.Common.{◌≡◌, take}
use Rattle.page_rows.proofs.same.same_branch_rows.Given as goal

abbrev pub invariant-loop-i : goal.invariant-loop-i
invariant-loop-i l = take l.i l.a ≡ take l.i l.b
