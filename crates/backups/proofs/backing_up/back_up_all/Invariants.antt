use Rattle.std.proofs.Common.{◌≡◌, ◌*◌}
use Rattle.std.specs.Prelude.{min}
use Rattle.foster_tree.specs.Nows.{KeepsDesk}
use Rattle.page_ops.specs.Causes.{MeetsNoEnd}
use Rattle.page_ops.specs.Claims.{no_claims}
use Rattle.page_ops.specs.Seeing.{known}
use Rattle.backups.specs.Going.{HasBackedUp, MayGoOn}
use Rattle.backups.proofs.backing_up.back_up_all.Given as goal

abbrev pub invariant-loop-segment : goal.invariant-loop-segment
invariant-loop-segment g l = record {
  none : (g.P.Pages.desk l.pages).out ≡ 0;
  entered : HasBackedUp g.N.Life.opens g.N.Life.entries g.N.Life.session_entries l.fn.pass.log l.backup 0 (min l.most (16 * l.segment)) (known (g.J.Entering.account l.fn.journal) l.fn.pass no_claims) (known (g.J.Entering.account l.journal) l.pass no_claims);
  next : MayGoOn g.N.Life.opens l.since l.backup l.segment l.pass.log;
  desk : KeepsDesk (g.P.Pages.desk l.fn.pages) (g.P.Pages.desk l.pages);
  calm : MeetsNoEnd (g.J.Entering.account l.fn.journal) (g.J.Entering.account l.journal);
}
