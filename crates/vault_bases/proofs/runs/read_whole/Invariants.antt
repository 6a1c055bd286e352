use Rattle.std.proofs.Common.{◌≤◌}
use Rattle.page_ops.specs.Causes.{MeetsNoEnd}
use Rattle.page_ops.specs.Claims.{no_claims}
use Rattle.page_ops.specs.Seeing.{Upholds, is_none, known}
use Rattle.vault_bases.specs.Named.{OfNamed}
use Rattle.vault_bases.proofs.Fronts.{HasFront}
use Rattle.vault_bases.proofs.runs.read_whole.Given as goal

abbrev pub invariant-loop : goal.invariant-loop
invariant-loop g l = record {
  front : OfNamed g.N.Life.opens l.fn.pass.log l.name (HasFront l.bytes.items l.counter);
  entered : Upholds g.N.Life.opens g.N.Life.entries g.N.Life.session_entries is_none (known (g.J.Entering.account l.fn.journal) l.fn.pass no_claims) (known (g.J.Entering.account l.journal) l.pass no_claims);
  open_still : MeetsNoEnd (g.J.Entering.account l.fn.journal) (g.J.Entering.account l.journal);
  faults : l.fn.bases.faults ≤ l.bases.faults;
  vault : g.O.Objects.faults l.fn.bases.objects ≤ g.O.Objects.faults l.bases.objects;
}
