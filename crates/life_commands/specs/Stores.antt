-- What stands beside the log disk, by the logs that may be found on it: the images of a data device, and the objects of a vault.
use Rattle.std.specs.Prelude.{◌≡◌, ℕ, List}
use Rattle.media.specs.Objects.{Stored, Synced}
use Rattle.media.specs.declared.pages.PageDevice as pages
use Rattle.media.specs.declared.vault.Vault as vaults
use Rattle.store_model.specs.declared.object.ObjectName.{ObjectName}
use Rattle.wal_record.specs.declared.record.Record.{Record}
use Rattle.named_objects.specs.Named.{Names}
use Rattle.life_commands.specs.Images.{AreSealed}
use Rattle.life_commands.specs.Turns.{Last, MayBeLeft, MayFind}

-- each object that this log names is synced in the vault, with the bytes that the log determines
abbrev pub AreStored : (ObjectName → Stored) → List Record → Type 0
AreStored told log = (name : ObjectName) (bytes : List ℕ) → Names log name bytes → told name ≡ Synced bytes

-- devices beside the log disk: whether they tell what they hold, and whether that is of a log
pub record Stores (S : Type 0) : Type 1 where
  pub tells : Type 0
  pub are_of : S → List Record → Type 0

-- a data device and a vault
abbrev pub stores : {D V : Type 0} → pages.Ghosts D → vaults.Ghosts V → Stores (D × V)
stores P V = record { tells = P.tells × V.tells; are_of = λ s log. AreSealed (P.told s.0) log × AreStored (V.told s.1) log }

-- what is of a log is so of each log that may be found, now or behind a stop
pub record AreOf (of : List Record → Type 0) (last : Last) : Type 0 where
  pub found : (log : List Record) → MayFind last log → of log
  pub left : (log : List Record) → MayBeLeft last log → of log
