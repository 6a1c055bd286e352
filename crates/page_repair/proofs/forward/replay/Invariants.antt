use Rattle.std.proofs.Common.{◌≡◌, reverse, IfSome, length}
use Rattle.wal_record.specs.State.{KeepsState}
use Rattle.chain_laws.specs.Walks.{redone, AreApplicable}
use Rattle.page_repair.specs.Rebuild.{AreSpelled}
use Rattle.page_repair.proofs.forward.replay.Given as goal

abbrev pub invariant-loop-record : goal.invariant-loop-record
invariant-loop-record g l = record {
  spelled : AreSpelled l.left;
  rules : IfSome l.state KeepsState;
  same : redone l.page l.state (reverse l.left) ≡ redone l.page l.fn.state (reverse l.fn.records.items);
  can : AreApplicable l.page l.fn.state (reverse l.fn.records.items) → AreApplicable l.page l.state (reverse l.left);
}

abbrev pub decreases-loop-record : goal.decreases-loop-record
decreases-loop-record g l = length l.left
