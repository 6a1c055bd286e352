use Rattle.std.proofs.Common.{◌≡◌, ℕ, List, ◌++◌}
use Rattle.log_archive.specs.Items.{chunks_upto}
use Rattle.log_archive.specs.Run.{chunks_bytes}
use Rattle.log_archive.specs.Shelves.{Holds}
use Rattle.log_archive.specs.declared.item.Numbered.{Numbered}
use Rattle.log_archive.proofs.object.put_items.Given as goal

abbrev pub invariant-loop-shelf : goal.invariant-loop-shelf
invariant-loop-shelf l = (f : ℕ → List Numbered) → Holds l.shelves f → l.out.items ≡ l.fn.out.items ++ chunks_bytes (chunks_upto f l.shelf-index)
