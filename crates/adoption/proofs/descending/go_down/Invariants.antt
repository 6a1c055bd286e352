use Rattle.std.proofs.Common.{◌≡◌, IsTrue, true}
use Rattle.wal_record.specs.State.{has_within}
use Rattle.page_ops.specs.Claims.{no_claims}
use Rattle.page_ops.specs.Seeing.{known}
use Rattle.adoption.specs.Descents.{GoesOn, LeadsTidy, standing}
use Rattle.adoption.proofs.descending.go_down.Given as goal

abbrev pub invariant-loop : goal.invariant-loop
invariant-loop g l =
    (goal.iterator-loop g).can_next l.iterator' × (goal.iterator-loop g).is_finite l.iterator' × ((g.P.Pages.desk l.pages).out ≡ 1) × ((g.P.Pages.desk l.pages).reserves ≡ true) × IsTrue (has_within l.held.state l.fn.key)
    × LeadsTidy g.N.Life.opens g.N.Life.entries (known (g.J.Entering.account l.fn.journal) l.fn.pass no_claims) l.pass.log l.fn.key l.held
    × GoesOn (standing (g.P.Pages.desk l.fn.pages) (g.J.Entering.account l.fn.journal) l.fn.pass) (standing (g.P.Pages.desk l.pages) (g.J.Entering.account l.journal) l.pass)
