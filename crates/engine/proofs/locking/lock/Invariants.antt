use Rattle.std.proofs.Common.{◌≡◌}
use Rattle.std.specs.Prelude.{false}
use Rattle.wal_record.specs.Legal.{held}
use Rattle.page_ops.specs.Causes.{MeetsNoEnd}
use Rattle.rollback.specs.Rolls.{standing}
use Rattle.engine.proofs.Serving.{Clears}
use Rattle.engine.proofs.locking.lock.Given as goal

abbrev pub invariant-loop : goal.invariant-loop
invariant-loop g l =
    (goal.iterator-loop g).can_next l.iterator' × (goal.iterator-loop g).is_finite l.iterator' × ((g.P.Pages.desk l.pages).out ≡ 0) × ((g.P.Pages.desk l.pages).reserves ≡ false) × (l.s ≡ l.fn.s)
    × Clears g.N.Life.opens g.N.Life.entries g.N.Life.session_entries (held l.fn.range l.fn.mode) (standing (g.P.Pages.desk l.fn.pages) (g.J.Entering.account l.fn.journal) l.fn.pass) (standing (g.P.Pages.desk l.pages) (g.J.Entering.account l.journal) l.pass)
    × MeetsNoEnd (g.J.Entering.account l.fn.journal) (g.J.Entering.account l.journal)
