use Rattle.std.proofs.Common.{◌≡◌}
use Rattle.page_ops.specs.Causes.{MeetsNoEnd}
use Rattle.page_ops.specs.Desks.{IsMade}
use Rattle.rollback.specs.Endings.{RollsOver}
use Rattle.rollback.specs.Owners.{IsSameSession, MayRollBack}
use Rattle.rollback.specs.Rolls.{standing}
use Rattle.rollback.proofs.rolling.roll_over.Given as goal

abbrev pub invariant-loop : goal.invariant-loop
invariant-loop g l =
    (goal.iterator-loop g).can_next l.iterator' × (goal.iterator-loop g).is_finite l.iterator' × ((g.P.Pages.desk l.pages).out ≡ 0) × IsMade g.N.Life.opens l.pass.log 1 × MayRollBack g.N.Life.opens l.pass.log l.fn.tx l.owner × IsSameSession l.fn.owner l.owner
    × RollsOver g.N.Life.opens g.N.Life.entries g.N.Life.session_entries l.fn.tx (standing (g.P.Pages.desk l.fn.pages) (g.J.Entering.account l.fn.journal) l.fn.pass) (standing (g.P.Pages.desk l.pages) (g.J.Entering.account l.journal) l.pass)
    × MeetsNoEnd (g.J.Entering.account l.fn.journal) (g.J.Entering.account l.journal)
