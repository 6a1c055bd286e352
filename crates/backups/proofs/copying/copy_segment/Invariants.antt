use Rattle.std.proofs.Common.{◌≡◌, ◌+◌, ℕ}
use mathlib.Core.List.{IsPrefix}
use Rattle.foster_tree.specs.Nows.{KeepsDesk}
use Rattle.page_ops.specs.Causes.{MeetsNoEnd}
use Rattle.page_ops.specs.Claims.{no_claims}
use Rattle.page_ops.specs.Gains.{Goes}
use Rattle.page_ops.specs.Seeing.{is_upkeep, known}
use Rattle.backups.specs.Copies.{AreDrawn}
use Rattle.backups.proofs.copying.copy_segment.Given as goal

abbrev pub invariant-loop-done : goal.invariant-loop-done
invariant-loop-done g l = record {
  none : (g.P.Pages.desk l.pages).out ≡ 0;
  drawn : (count : ℕ) × (l.before + count ≡ l.done) × AreDrawn g.N.Life.opens l.fn.pass.log l.pass.log l.segment count l.copies;
  desk : KeepsDesk (g.P.Pages.desk l.fn.pages) (g.P.Pages.desk l.pages);
  begins : IsPrefix l.fn.pass.log l.pass.log;
  goes : Goes is_upkeep (known (g.J.Entering.account l.fn.journal) l.fn.pass no_claims) (known (g.J.Entering.account l.journal) l.pass no_claims);
  calm : MeetsNoEnd (g.J.Entering.account l.fn.journal) (g.J.Entering.account l.journal);
}
