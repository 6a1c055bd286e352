use Rattle.std.proofs.Common.{◌≡◌, ◌≤◌, List, Some}
use Rattle.std.specs.Prelude.{◌↔◌, IfSome}
use Rattle.wal_record.specs.declared.record.Record.{Record}
use Rattle.log_archive.specs.Shelves.{Gathered}
use Rattle.log_archive.proofs.making.gather.Given as goal

abbrev pub invariant-loop-lsn : goal.invariant-loop-lsn
invariant-loop-lsn g l = record {
  gathered : Gathered (g.R.Reads.answers l.fn.log) l.first l.lsn l.items;
  answers : (x : List Record) → g.R.Reads.answers l.fn.log x ↔ g.R.Reads.answers l.log x;
  log_later : g.R.Reads.log_faults l.fn.log ≤ g.R.Reads.log_faults l.log;
  vault_later : g.R.Reads.vault_faults l.fn.log ≤ g.R.Reads.vault_faults l.log;
  ended : IfSome (g.R.Reads.ended l.fn.log) (λ at. g.R.Reads.ended l.log ≡ Some at);
}
