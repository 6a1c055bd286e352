use Rattle.std.proofs.Common.{◌≡◌, ℕ, ◌+◌, List, ◌++◌, length}
use Rattle.std.specs.Prelude.{flat_map}
use Rattle.log_archive.specs.Items.{chunks_upto}
use Rattle.log_archive.specs.Run.{chunks_bytes, directory, entry_bytes}
use Rattle.log_archive.specs.Shelves.{Holds}
use Rattle.log_archive.specs.declared.item.Numbered.{Numbered}
use Rattle.log_archive.proofs.object.put_directory.Given as goal

abbrev pub invariant-loop-i : goal.invariant-loop-i
invariant-loop-i l = record {
  entries : (f : ℕ → List Numbered) → Holds l.shelves f → l.out.items ≡ l.fn.out.items ++ flat_map entry_bytes (directory l.at (chunks_upto f l.i));
  next : (f : ℕ → List Numbered) → Holds l.shelves f → l.offset ≡ l.at + length (chunks_bytes (chunks_upto f l.i));
}
