use Rattle.std.proofs.Common.{◌≡◌, IsTrue}
use mathlib.Core.List.{IsPrefix}
use Rattle.wal_record.specs.State.{has_within}
use Rattle.page_ops.specs.Causes.{MeetsNoEnd}
use Rattle.page_ops.specs.Claims.{no_claims}
use Rattle.page_ops.specs.Seeing.{is_upkeep, known}
use Rattle.page_ops.specs.Gains.{Goes}
use Rattle.foster_tree.specs.Nows.{KeepsDesk}
use Rattle.foster_tree.proofs.leaf.descend.Given as goal

abbrev pub invariant-loop : goal.invariant-loop
invariant-loop g l =
    (goal.iterator-loop g).can_next l.iterator' × (goal.iterator-loop g).is_finite l.iterator' × ((g.P.Pages.desk l.pages).out ≡ 1) × IsTrue (has_within l.held.state l.fn.key)
    × KeepsDesk (g.P.Pages.desk l.fn.pages) (g.P.Pages.desk l.pages) × IsPrefix l.fn.pass.log l.pass.log
    × Goes is_upkeep (known (g.J.Entering.account l.fn.journal) l.fn.pass no_claims) (known (g.J.Entering.account l.journal) l.pass no_claims)
    × MeetsNoEnd (g.J.Entering.account l.fn.journal) (g.J.Entering.account l.journal)
