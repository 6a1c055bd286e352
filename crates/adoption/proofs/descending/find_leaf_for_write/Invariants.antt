use Rattle.std.proofs.Common.{◌≡◌}
use Rattle.page_ops.specs.Desks.{IsMade}
use Rattle.adoption.specs.Descents.{GoesOn, standing}
use Rattle.adoption.proofs.descending.find_leaf_for_write.Given as goal

abbrev pub invariant-loop : goal.invariant-loop
invariant-loop g l =
    (goal.iterator-loop g).can_next l.iterator' × (goal.iterator-loop g).is_finite l.iterator' × ((g.P.Pages.desk l.pages).out ≡ 0) × IsMade g.N.Life.opens l.pass.log 1
    × GoesOn (standing (g.P.Pages.desk l.fn.pages) (g.J.Entering.account l.fn.journal) l.fn.pass) (standing (g.P.Pages.desk l.pages) (g.J.Entering.account l.journal) l.pass)
