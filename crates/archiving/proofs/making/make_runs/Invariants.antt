use Rattle.std.proofs.Common.{◌≡◌, ◌+◌, ◌-◌, ◌≤◌}
use Rattle.page_ops.specs.Causes.{MeetsNoEnd}
use Rattle.page_ops.specs.Claims.{no_claims}
use Rattle.page_ops.specs.Seeing.{known}
use Rattle.archiving.specs.Going.{HasMade, MayGoOn}
use Rattle.archiving.proofs.making.make_runs.Given as goal

abbrev pub invariant-loop-waiting : goal.invariant-loop-waiting
invariant-loop-waiting g l = record {
  made : HasMade g.N.Life.opens g.N.Life.entries g.N.Life.session_entries l.fn.from l.waiting (known (g.J.Entering.account l.fn.journal) l.fn.pass no_claims) (known (g.J.Entering.account l.journal) l.pass no_claims);
  next : MayGoOn g.N.Life.opens l.since l.waiting l.pass.log;
  counted : l.waiting.stood ≡ l.fn.from.stood + l.made;
  few : l.fn.from.stood ≤ 1024 → l.waiting.stood ≤ 1024;
  faults : g.O.Objects.faults l.fn.objects ≤ g.O.Objects.faults l.objects;
  calm : MeetsNoEnd (g.J.Entering.account l.fn.journal) (g.J.Entering.account l.journal);
}

abbrev pub decreases-loop-waiting : goal.decreases-loop-waiting
decreases-loop-waiting g l = 1024 - l.waiting.stood
