-- Which statuses cut a command off.
use Rattle.std.specs.Prelude.{◌≡◌, Bool, true, false}
use Rattle.life_commands.specs.declared.status.Status.{Status}
use Rattle.life_commands.specs.declared.status.Status.TheVariants as statuses

-- Whether the status cuts a command off that may have entered something: one of a fault of the log disk or of the vault, or of
-- a block or an object that can't be read within a life, does; want of memory may.
abbrev pub MayCut : Status → Bool → Type 0
MayCut statuses.LogFault cut = cut ≡ true
MayCut statuses.VaultFault cut = cut ≡ true
MayCut (statuses.BlockBad block byte) cut = cut ≡ true
MayCut (statuses.VaultBad object byte) cut = cut ≡ true
MayCut statuses.Memory cut = Unit {0}
MayCut _ cut = cut ≡ false
