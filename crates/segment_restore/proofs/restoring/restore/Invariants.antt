use Rattle.std.proofs.Common.{◌≤◌}
use Rattle.page_ops.specs.Causes.{MeetsNoEnd}
use Rattle.page_ops.specs.Claims.{no_claims}
use Rattle.page_ops.specs.Seeing.{Upholds, is_none, known}
use Rattle.segment_restore.specs.Restored.{AreBack, IsLost, SpareOthers}
use Rattle.segment_restore.proofs.Written.{IsLostTo}
use Rattle.segment_restore.proofs.restoring.restore.Given as goal

abbrev pub invariant-loop-done : goal.invariant-loop-done
invariant-loop-done g l = record {
  written : g.I.Images.tells → AreBack g.N.Life.opens l.fn.pass.log l.pass.log (IsLostTo l.segment l.lost l.done) (g.I.Images.newest l.images) (g.I.Images.faults l.fn.images) (g.I.Images.faults l.images);
  spared : g.I.Images.tells → SpareOthers (IsLost l.segment l.lost) g.I.Images.newest l.fn.images l.images;
  entered : Upholds g.N.Life.opens g.N.Life.entries g.N.Life.session_entries is_none (known (g.J.Entering.account l.fn.journal) l.fn.pass no_claims) (known (g.J.Entering.account l.journal) l.pass no_claims);
  open_still : MeetsNoEnd (g.J.Entering.account l.fn.journal) (g.J.Entering.account l.journal);
  faults : g.B.Bases.vault_faults l.fn.bases ≤ g.B.Bases.vault_faults l.bases;
  images : g.I.Images.faults l.fn.images ≤ g.I.Images.faults l.images;
}
