-- What a command makes of the vault and of its fuse.
use Rattle.std.specs.Prelude.{◌≡◌, ℕ, Option, Some, None, Bool, true, false}
use Rattle.media.specs.Counted.{Armed}
use Rattle.media.specs.Objects.{MayLeave, SameObjects}
use Rattle.media.specs.declared.vault.Vault as vaults
use Rattle.store_model.specs.declared.object.ObjectName.{ObjectName}
use Rattle.script.specs.declared.command.Command.{Command}
use Rattle.script.specs.declared.command.Command.TheVariants as commands
use Rattle.script.specs.declared.command.Device.{Device}
use Rattle.script.specs.declared.command.Device.TheVariants.{Vault}
use Rattle.life_commands.specs.Turns.{Stage}

-- what a stop leaves of it: its count of faults, each synced object, and what no name stood for; and its fuse is renewed
pub record IsCycled {E : Type 0} (V : vaults.Ghosts E) (old new : E) : Type 0 where
  pub left : V.tells → (name : ObjectName) → MayLeave (V.told old name) (V.told new name)
  pub unfailed : V.faults new ≡ V.faults old
  pub renewed : V.fuses → V.passes new ≡ None

-- its fuse lets so many calls pass from now on, or any number; what it holds stays
pub record IsRearmed {E : Type 0} (V : vaults.Ghosts E) (n : Option ℕ) (old new : E) : Type 0 where
  pub same : V.tells → SameObjects (V.told old) (V.told new)
  pub unfailed : V.faults new ≡ V.faults old
  pub fuse : Armed V.fuses V.passes V.refused V.own n old new

-- that of another device leaves it as it was
abbrev pub Arms : {E : Type 0} → vaults.Ghosts E → Device → Option ℕ → E → E → Type 0
Arms V Vault n old new = IsRearmed V n old new
Arms V _ n old new = new ≡ old

-- where no life is open a command leaves it as it was, but for a stop and what arms or renews its fuse
abbrev pub Cycles : {E : Type 0} → vaults.Ghosts E → Command → E → E → Type 0
Cycles V (commands.Stop keep) old new = IsCycled V old new
Cycles V (commands.Fuse device calls) old new = Arms V device (Some calls) old new
Cycles V (commands.Renew device) old new = Arms V device None old new
Cycles V _ old new = new ≡ old

-- ---- whether its fuse is armed

-- the vault's fuse is set so; that of another device leaves it
abbrev pub armed_by : Device → Bool → Bool → Bool
armed_by Vault set armed = set
armed_by _ set armed = armed

-- behind a command that is done
abbrev pub armed_after : Command → Bool → Bool
armed_after (commands.Stop keep) armed = false
armed_after (commands.Fuse device calls) armed = armed_by device true armed
armed_after (commands.Renew device) armed = armed_by device false armed
armed_after _ armed = armed

-- beside what H says: whether the vault's fuse is armed
pub record WithVault (armed : Bool) (H : Stage → Type 0) (s : Stage) : Type 0 where
  pub here : H s
  pub vault : s.armed.vault ≡ armed
