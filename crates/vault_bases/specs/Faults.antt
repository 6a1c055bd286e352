-- Why a copy isn't read.
use Rattle.std.specs.Prelude.{ℕ, ◌<◌, List}
use Rattle.media.specs.Cause.{Rose}
use Rattle.store_model.specs.declared.fault.Fault.{Fault}
use Rattle.store_model.specs.declared.fault.Fault.TheVariants as faults
use Rattle.wal_record.specs.declared.record.Record.{Record}
use Rattle.page_ops.specs.Causes.{IsUntold}

-- Of a call that reads of the vault, with a count of its faults and the vault's own one before and after: memory ran out, or
-- the vault itself failed, which was counted. An object is bad only where no log of the life is known.
abbrev pub FailsToGive : (List Record → Type 0) → ℕ → ℕ → ℕ → ℕ → Fault → Type 0
FailsToGive opens before now vault vault_now faults.Memory = Unit {0}
FailsToGive opens before now vault vault_now faults.VaultFault = (before < now) × Rose vault vault_now
FailsToGive opens before now vault vault_now (faults.VaultBad object byte) = IsUntold opens
FailsToGive opens before now vault vault_now fault = ⊥

-- where a fault of the vault is told, the vault itself has failed
abbrev pub IsOfVault : ℕ → ℕ → Fault → Type 0
IsOfVault vault vault_now faults.VaultFault = Rose vault vault_now
IsOfVault vault vault_now fault = Unit {0}
