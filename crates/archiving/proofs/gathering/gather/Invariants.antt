use Rattle.std.proofs.Common.{◌≤◌}
use mathlib.Core.List.{IsPrefix}
use Rattle.log_archive.specs.Shelves.{Gathered}
use Rattle.log_archive.specs.declared.layout.TheConstants.{RUN_BYTES}
use Rattle.page_ops.specs.Causes.{MeetsNoEnd}
use Rattle.page_ops.specs.Claims.{no_claims}
use Rattle.page_ops.specs.Seeing.{known}
use Rattle.archiving.specs.Archives.{AddsNone}
use Rattle.archiving.specs.Going.{IsLifeLog}
use Rattle.archiving.proofs.gathering.gather.Given as goal

abbrev pub invariant-loop-lsn : goal.invariant-loop-lsn
invariant-loop-lsn g l = record {
  gathered : Gathered (IsLifeLog g.N.Life.opens l.fn.pass.log) l.first l.lsn l.items;
  small : l.items.size ≤ RUN_BYTES;
  begins : IsPrefix l.fn.pass.log l.pass.log;
  entered : AddsNone g.N.Life.opens g.N.Life.entries g.N.Life.session_entries (known (g.J.Entering.account l.fn.journal) l.fn.pass no_claims) (known (g.J.Entering.account l.journal) l.pass no_claims);
  calm : MeetsNoEnd (g.J.Entering.account l.fn.journal) (g.J.Entering.account l.journal);
}
