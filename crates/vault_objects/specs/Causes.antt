-- Why a call over a vault is refused.
use Rattle.std.specs.Prelude.{ℕ}
use Rattle.media.specs.Cause.{Rose}
use Rattle.store_model.specs.declared.object.ObjectName.{ObjectName}
use Rattle.store_model.specs.declared.fault.Fault.{Fault}
use Rattle.store_model.specs.declared.fault.Fault.TheVariants as faults

abbrev pub IsVaultFault : Fault → Type 0
IsVaultFault faults.VaultFault = Unit {0}
IsVaultFault fault = ⊥

-- the vault failed in this call
abbrev pub IsFailed : ℕ → ℕ → Fault → Type 0
IsFailed before now faults.VaultFault = Rose before now
IsFailed before now fault = ⊥

-- no object is bad
abbrev pub NoneBad : ObjectName → ℕ → Type 0
NoneBad object byte = ⊥

-- memory ran out, the vault failed in this call, or an object is bad in this way
abbrev pub FailsAtVault : (ObjectName → ℕ → Type 0) → ℕ → ℕ → Fault → Type 0
FailsAtVault bad before now faults.Memory = Unit {0}
FailsAtVault bad before now faults.VaultFault = Rose before now
FailsAtVault bad before now (faults.VaultBad object byte) = bad object byte
FailsAtVault bad before now fault = ⊥
