use Rattle.std.proofs.Common.{◌≡◌, ◌++◌, take}
use mathlib.Core.List.{IsPrefix}
use Rattle.foster_tree.proofs.Gathering.{live_pairs}
use Rattle.foster_tree.proofs.scan.add_live.Given as goal

abbrev pub invariant-loop-row : goal.invariant-loop-row
invariant-loop-row l = (l.out.items ≡ l.fn.out.items ++ live_pairs (take l.row-index l.rows)) × IsPrefix l.fn.out.items l.out.items
