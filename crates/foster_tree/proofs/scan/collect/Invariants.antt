use Rattle.std.proofs.Common.{◌≡◌, false, true}
use mathlib.Core.List.{IsPrefix}
use Rattle.store_model.specs.Range.{is_below}
use Rattle.page_ops.specs.Desks.{IsMade}
use Rattle.page_ops.specs.Causes.{MeetsNoEnd}
use Rattle.page_ops.specs.Claims.{no_claims}
use Rattle.page_ops.specs.Seeing.{is_upkeep, known}
use Rattle.page_ops.specs.Gains.{Goes}
use Rattle.foster_tree.specs.Nows.{KeepsDesk}
use Rattle.foster_tree.specs.Scans.{Collects}
use Rattle.foster_tree.proofs.Scanning.{from_to}
use Rattle.foster_tree.proofs.scan.collect.Given as goal

abbrev pub invariant-loop : goal.invariant-loop
invariant-loop g l =
    (goal.iterator-loop g).can_next l.iterator' × (goal.iterator-loop g).is_finite l.iterator' × ((g.P.Pages.desk l.pages).out ≡ 0) × IsMade g.N.Life.opens l.pass.log 1
    × KeepsDesk (g.P.Pages.desk l.fn.pages) (g.P.Pages.desk l.pages) × IsPrefix l.fn.pass.log l.pass.log
    × Goes is_upkeep (known (g.J.Entering.account l.fn.journal) l.fn.pass no_claims) (known (g.J.Entering.account l.journal) l.pass no_claims)
    × MeetsNoEnd (g.J.Entering.account l.fn.journal) (g.J.Entering.account l.journal)
    × (is_below l.from l.fn.range.low ≡ false) × (is_below l.from l.fn.range.high ≡ true)
    × Collects g.N.Life.opens l.fn.pass.log l.pass.log l.fn.range (from_to l.fn.range.low l.from) l.fn.out.items l.out.items × IsPrefix l.fn.out.items l.out.items
