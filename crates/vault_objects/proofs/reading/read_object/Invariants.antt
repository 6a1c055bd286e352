use Rattle.std.proofs.Common.{◌≤◌, ◌*◌, length}
use Rattle.media.specs.Counted.{Blames}
use Rattle.media.specs.Objects.{SameObjects, bytes_of}
use Rattle.vault_objects.proofs.Chunks.{IsFront}
use Rattle.vault_objects.proofs.reading.read_object.Given as goal

abbrev pub invariant-loop : goal.invariant-loop
invariant-loop g l = record {
  same : g.V.Vault.tells → SameObjects (g.V.Vault.told l.fn.vault) (g.V.Vault.told l.vault);
  later : g.V.Vault.faults l.fn.vault ≤ g.V.Vault.faults l.vault;
  blames : Blames g.V.Vault.passes g.V.Vault.refused g.V.Vault.own l.fn.vault l.vault ⊥;
  front : g.V.Vault.tells → IsFront l.bytes.items (bytes_of (g.V.Vault.told l.fn.vault l.name));
  size : length l.bytes.items ≤ 65536 * l.counter;
}
