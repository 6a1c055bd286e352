use Rattle.std.proofs.Common.{◌≡◌, ◌≢◌, ◌≤◌, ◌++◌, List, reverse}
use mathlib.Core.List.{IsPrefix}
use Rattle.wal_record.specs.History.{life_log}
use Rattle.wal_record.specs.declared.record.Record.{Record}
use Rattle.page_ops.specs.Causes.{MeetsNoEnd}
use Rattle.page_ops.specs.Claims.{no_claims}
use Rattle.page_ops.specs.Seeing.{Upholds, is_none, known}
use Rattle.chain_laws.specs.Steps.{named_between}
use Rattle.page_repair.specs.Rebuild.{AreSpelled}
use Rattle.page_repair.specs.Supplies.{IsHead}
use Rattle.segment_restore.proofs.following.follow.Given as goal

abbrev pub invariant-loop-lsn : goal.invariant-loop-lsn
invariant-loop-lsn g l = record {
  records : (opening : List Record) → g.N.Life.opens opening → reverse (named_between (life_log opening l.fn.pass.log) l.page l.low l.head) ≡ l.records.items ++ reverse (named_between (life_log opening l.fn.pass.log) l.page l.low l.lsn);
  named : l.lsn ≢ 0 → IsHead g.N.Life.opens l.fn.pass.log l.page l.lsn;
  spelled : AreSpelled l.records.items;
  begins : IsPrefix l.fn.pass.log l.pass.log;
  entered : Upholds g.N.Life.opens g.N.Life.entries g.N.Life.session_entries is_none (known (g.J.Entering.account l.fn.journal) l.fn.pass no_claims) (known (g.J.Entering.account l.journal) l.pass no_claims);
  open_still : MeetsNoEnd (g.J.Entering.account l.fn.journal) (g.J.Entering.account l.journal);
  faults : g.B.Bases.vault_faults l.fn.bases ≤ g.B.Bases.vault_faults l.bases;
}

abbrev pub decreases-loop-lsn : goal.decreases-loop-lsn
decreases-loop-lsn g l = l.lsn
