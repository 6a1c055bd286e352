use Rattle.std.proofs.Common.{◌≡◌, ◌≢◌, ◌↔◌, ◌+◌, ◌++◌, List, length, reverse, Some, IfSome, IsTrue}
use Rattle.wal_record.specs.Chains.{names_at}
use Rattle.wal_record.specs.declared.record.Record.{Record}
use Rattle.page_ops.specs.Desks.{KeepsFaults}
use Rattle.chain_laws.specs.Steps.{named_between}
use Rattle.page_repair.specs.Rebuild.{AreSpelled}
use Rattle.page_repair.proofs.back.follow.Given as goal

abbrev pub invariant-loop-lsn : goal.invariant-loop-lsn
invariant-loop-lsn g l = record {
  records : (log : List Record) → g.C.Chain.answers l.fn.chain log → reverse (named_between log l.page l.low l.head) ≡ l.records.items ++ reverse (named_between log l.page l.low l.lsn);
  named : (log : List Record) → g.C.Chain.answers l.fn.chain log → l.lsn ≢ 0 → IsTrue (names_at log l.lsn l.page);
  spelled : AreSpelled l.records.items;
  answers : (log : List Record) → g.C.Chain.answers l.fn.chain log ↔ g.C.Chain.answers l.chain log;
  counted : g.C.Chain.calls l.chain ≡ g.C.Chain.calls l.fn.chain + length l.records.items;
  faults : KeepsFaults (g.C.Chain.faults l.fn.chain) (g.C.Chain.faults l.chain);
  ended : IfSome (g.C.Chain.ended l.fn.chain) (λ at. g.C.Chain.ended l.chain ≡ Some at);
  first : IfSome (g.C.Chain.ended l.fn.chain) (λ at. l.lsn ≡ l.head);
}

abbrev pub decreases-loop-lsn : goal.decreases-loop-lsn
decreases-loop-lsn g l = l.lsn
