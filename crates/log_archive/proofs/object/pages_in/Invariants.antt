use Rattle.std.proofs.Common.{◌≡◌, ℕ, ◌≤◌, List, length}
use Rattle.log_archive.specs.Items.{chunks_upto}
use Rattle.log_archive.specs.Shelves.{Holds}
use Rattle.log_archive.specs.declared.item.Numbered.{Numbered}
use Rattle.log_archive.proofs.object.pages_in.Given as goal

abbrev pub invariant-loop-shelf : goal.invariant-loop-shelf
invariant-loop-shelf l = record {
  counted : (f : ℕ → List Numbered) → Holds l.shelves f → l.pages ≡ length (chunks_upto f l.shelf-index);
  few : l.pages ≤ l.shelf-index;
}
