-- The chain of a page, and why it isn't followed.
use Rattle.std.specs.Prelude.{◌≡◌, ℕ, ◌<◌, List, take, Option, Some, is_some, IsTrue, Result, Ok, Err}
use Rattle.store_model.specs.declared.fault.Fault.{Fault}
use Rattle.store_model.specs.declared.fault.Fault.TheVariants as faults
use Rattle.wal_record.specs.Images.{image}
use Rattle.wal_record.specs.Upkeep.{page_backup}
use Rattle.wal_record.specs.declared.record.Record.{Record}
use Rattle.page_image.specs.declared.sealed.Sealed.{Sealed}
use Rattle.page_ops.specs.Desks.{Faults}

-- the page's image in the log up to this LSN
abbrev pub IsImageAt : List Record → ℕ → Sealed → Type 0
IsImageAt log page x = image (take x.lsn log) page ≡ Some x.state

-- a backup has this image of the page, the one that the log says it has
pub record IsBackup (log : List Record) (page : ℕ) (x : Sealed) : Type 0 where
  pub lsn : x.lsn ≡ (page_backup log page).lsn
  pub image : IsImageAt log page x

-- no log is known by which the chain answers
abbrev pub IsUnknown : (List Record → Type 0) → Type 0
IsUnknown answers = (log : List Record) → answers log → ⊥

-- The log disk or the vault failed in this call, the life had ended, or the log disk's fault ended it. Bad blocks and
-- objects come only where no log is known by which the chain answers.
abbrev pub FailsToFollow : Type 0 → Faults → Faults → Option ℕ → Fault → Type 0
FailsToFollow bad old new ended faults.Memory = Unit {0}
FailsToFollow bad old new ended faults.LogFault = (old.log < new.log) × IsTrue (is_some ended)
FailsToFollow bad old new ended faults.VaultFault = old.vault < new.vault
FailsToFollow bad old new ended (faults.Ended at) = ended ≡ Some at
FailsToFollow bad old new ended (faults.LogBad block byte) = bad
FailsToFollow bad old new ended (faults.VaultBad object byte) = bad
FailsToFollow bad old new ended fault = ⊥

-- of the vault alone
abbrev pub FailsAtVault : Type 0 → Faults → Faults → Fault → Type 0
FailsAtVault bad old new faults.Memory = Unit {0}
FailsAtVault bad old new faults.VaultFault = old.vault < new.vault
FailsAtVault bad old new (faults.VaultBad object byte) = bad
FailsAtVault bad old new fault = ⊥

-- where the life was known to have ended, the call says so, or it wants memory
abbrev pub SaysEnd : {T : Type 0} → ℕ → Result T Fault → Type 0
SaysEnd at (Ok x) = ⊥
SaysEnd at (Err faults.Memory) = Unit {0}
SaysEnd at (Err fault) = fault ≡ faults.Ended at
