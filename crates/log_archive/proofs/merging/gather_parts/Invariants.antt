use Rattle.std.proofs.Common.{◌≤◌, List, length, take}
use Rattle.media.specs.Counted.{Blames}
use Rattle.media.specs.Objects.{SameObjects}
use Rattle.log_archive.specs.Items.{Chunk}
use Rattle.log_archive.specs.Merging.{AreParts, items_in}
use Rattle.log_archive.specs.Shelves.{Holds}
use Rattle.log_archive.proofs.merging.gather_parts.Given as goal

abbrev pub invariant-loop-part : goal.invariant-loop-part
invariant-loop-part g l = record {
  held : g.V.Vault.tells → (css : List (List Chunk)) → AreParts (g.V.Vault.told l.fn.vault) l.parts css → Holds l.shelves.items (items_in (take l.part-index css));
  few : length l.shelves.items ≤ 16384;
  same : g.V.Vault.tells → SameObjects (g.V.Vault.told l.fn.vault) (g.V.Vault.told l.vault);
  later : g.V.Vault.faults l.fn.vault ≤ g.V.Vault.faults l.vault;
  blames : Blames g.V.Vault.passes g.V.Vault.refused g.V.Vault.own l.fn.vault l.vault ⊥;
}
