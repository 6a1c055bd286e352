-- Why a copy isn't read, call by call.
use Rattle.std.proofs.Common.{ℕ, List, arith}
use Rattle.std.specs.Prelude.{◌≤◌, IfErr, Result, Ok, Err}
use Rattle.store_model.specs.declared.fault.Fault.{Fault}
use Rattle.store_model.specs.declared.fault.Fault.TheVariants as faults
use Rattle.wal_record.specs.declared.record.Record.{Record}
use Rattle.wal_record.specs.declared.entry.Entry.{Entry}
use Rattle.page_ops.specs.Causes.{FailsToBring, FailsToEnter, MeetsNoEnd, NoOther}
use Rattle.page_ops.specs.Names.{LedgerName}
use Rattle.page_ops.specs.Seeing.{Account}
use Rattle.segment_restore.specs.Faults.{of_vault}
use Rattle.vault_bases.specs.Faults.{FailsToGive, IsOfVault}

-- behind calls that were done
pub gives_later : (opens : List Record → Type 0) (first before now start vault vault_now : ℕ) (f : Fault) → first ≤ before → start ≤ vault → FailsToGive opens before now vault vault_now f → FailsToGive opens first now start vault_now f
gives_later opens first before now start vault vault_now faults.Memory up higher e = e
gives_later opens first before now start vault vault_now faults.VaultFault up higher e = let less = e.0 in let rose = e.1 in (omega (arith, up, less), omega (arith, higher, rose))
gives_later opens first before now start vault vault_now (faults.VaultBad object byte) up higher e = e
gives_later opens first before now start vault vault_now _ up higher e = absurd e

pub result_later : {T : Type 0} (opens : List Record → Type 0) (first before now start vault vault_now : ℕ) (r : Result T Fault) → first ≤ before → start ≤ vault → IfErr r (FailsToGive opens before now vault vault_now) → IfErr r (FailsToGive opens first now start vault_now)
result_later opens first before now start vault vault_now (Ok x) up higher e = tt
result_later opens first before now start vault vault_now (Err f) up higher e = gives_later opens first before now start vault vault_now f up higher e

-- calls of the vault meet no end of the life
pub brings : (opens : List Record → Type 0) (log_faults made : LedgerName) (before now vault vault_now : ℕ) (a b : Account) (h : List Entry) (f : Fault) → MeetsNoEnd a b → FailsToGive opens before now vault vault_now f
    → FailsToBring opens log_faults made (of_vault before) (of_vault now) a b h f
brings opens log_faults made before now vault vault_now a b h faults.Memory none e = none
brings opens log_faults made before now vault vault_now a b h faults.VaultFault none e = (none, e.0)
brings opens log_faults made before now vault vault_now a b h (faults.VaultBad object byte) none e = (none, e)
brings opens log_faults made before now vault vault_now a b h _ none e = absurd e

pub result_brings : {T : Type 0} (opens : List Record → Type 0) (log_faults made : LedgerName) (before now vault vault_now : ℕ) (a b : Account) (h : List Entry) (r : Result T Fault) → MeetsNoEnd a b → IfErr r (FailsToGive opens before now vault vault_now)
    → IfErr r (FailsToBring opens log_faults made (of_vault before) (of_vault now) a b h)
result_brings opens log_faults made before now vault vault_now a b h (Ok x) none e = tt
result_brings opens log_faults made before now vault vault_now a b h (Err f) none e = brings opens log_faults made before now vault vault_now a b h f none e

pub own_cause : (opens : List Record → Type 0) (before now vault vault_now : ℕ) (f : Fault) → FailsToGive opens before now vault vault_now f → IsOfVault vault vault_now f
own_cause opens before now vault vault_now faults.Memory e = tt
own_cause opens before now vault vault_now faults.VaultFault e = e.1
own_cause opens before now vault vault_now (faults.VaultBad object byte) e = tt
own_cause opens before now vault vault_now _ e = absurd e

pub result_cause : {T : Type 0} (opens : List Record → Type 0) (before now vault vault_now : ℕ) (r : Result T Fault) → IfErr r (FailsToGive opens before now vault vault_now) → IfErr r (IsOfVault vault vault_now)
result_cause opens before now vault vault_now (Ok x) e = tt
result_cause opens before now vault vault_now (Err f) e = own_cause opens before now vault vault_now f e

-- the journal tells no fault of the vault
pub no_cause : (vault vault_now : ℕ) (f : Fault) → FailsToEnter NoOther f → IsOfVault vault vault_now f
no_cause vault vault_now faults.Memory may = tt
no_cause vault vault_now (faults.Ended at) may = tt
no_cause vault vault_now _ may = absurd may
