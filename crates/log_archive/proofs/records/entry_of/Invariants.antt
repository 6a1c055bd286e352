use Rattle.std.proofs.Common.{◌≢◌, take}
use Rattle.std.specs.List.{All}
use Rattle.log_archive.specs.declared.directory.Entry.{Entry}
use Rattle.log_archive.proofs.records.entry_of.Given as goal

abbrev pub invariant-loop-entry : goal.invariant-loop-entry
invariant-loop-entry l = All (λ (e : Entry). e.page ≢ l.page) (take l.entry-index l.entries)
