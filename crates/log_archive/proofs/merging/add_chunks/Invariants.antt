use Rattle.std.proofs.Common.{◌≤◌, length}
use Rattle.log_archive.proofs.Merged.{Walks}
use Rattle.log_archive.proofs.merging.add_chunks.Given as goal

abbrev pub invariant-loop-entry : goal.invariant-loop-entry
invariant-loop-entry l = record {
  walks : Walks l.head l.entries l.bytes l.rest l.fn.shelves.items l.shelves.items l.entry-index;
  few : length l.fn.shelves.items ≤ 16384 → length l.shelves.items ≤ 16384;
}
