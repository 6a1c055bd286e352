-- Refusals of calls beside which calls of the vault are made.
use Rattle.std.proofs.Common.{ℕ, List, arith}
use Rattle.std.specs.Prelude.{◌≤◌, IfErr, Result, Ok, Err}
use Rattle.store_model.specs.declared.fault.Fault.{Fault}
use Rattle.store_model.specs.declared.fault.Fault.TheVariants as faults
use Rattle.wal_record.specs.declared.record.Record.{Record}
use Rattle.wal_record.specs.declared.entry.Entry.{Entry}
use Rattle.page_ops.specs.Causes.{FailsToBring, MeetsNoEnd}
use Rattle.page_ops.specs.Names.{LedgerName}
use Rattle.page_ops.specs.Seeing.{Account, Keeps}
use Rattle.page_ops.proofs.Composing.{bring_then}
use Rattle.segment_restore.specs.Faults.{no_faults, of_vault}
use Rattle.segment_restore.proofs.Chains.{fails_then}

module _ (opens : List Record → Type 0) (log_faults made : LedgerName) where
  -- without calls of the vault
  pub owned : (x y : ℕ) (a b : Account) (h : List Entry) (f : Fault) → FailsToBring opens log_faults made no_faults no_faults a b h f → FailsToBring opens log_faults made (of_vault x) (of_vault y) a b h f
  owned x y a b h faults.Memory e = e
  owned x y a b h faults.LogFault e = e
  owned x y a b h faults.VaultFault e = (e.0, let less = e.1 in omega (arith, less))
  owned x y a b h (faults.Ended at) e = e
  owned x y a b h (faults.LogBad block byte) e = e
  owned x y a b h (faults.VaultBad object byte) e = e
  owned x y a b h _ e = absurd e

  module _ (x y : ℕ) (a b c : Account) (h : List Entry) (none : MeetsNoEnd a b) (keeps : Keeps a b) where
    -- behind calls that were done
    pub fails_after : (z : ℕ) (f : Fault) → x ≤ y → FailsToBring opens log_faults made (of_vault y) (of_vault z) b c h f → FailsToBring opens log_faults made (of_vault x) (of_vault z) a c h f
    fails_after z f later e = bring_then opens log_faults made a b c h none keeps (of_vault x) (of_vault y) (of_vault z) f (record { log = omega arith; vault = later }) e

    pub fails_behind_own : (f : Fault) → FailsToBring opens log_faults made no_faults no_faults b c h f → FailsToBring opens log_faults made (of_vault x) (of_vault y) a c h f
    fails_behind_own f e = owned x y a c h f (fails_then opens log_faults made no_faults a b c h f none keeps e)

    pub result_after : {T : Type 0} (z : ℕ) (r : Result T Fault) → x ≤ y → IfErr r (FailsToBring opens log_faults made (of_vault y) (of_vault z) b c h) → IfErr r (FailsToBring opens log_faults made (of_vault x) (of_vault z) a c h)
    result_after z (Ok v) later e = tt
    result_after z (Err f) later e = fails_after z f later e

    pub result_behind_own : {T : Type 0} (r : Result T Fault) → IfErr r (FailsToBring opens log_faults made no_faults no_faults b c h) → IfErr r (FailsToBring opens log_faults made (of_vault x) (of_vault y) a c h)
    result_behind_own (Ok v) e = tt
    result_behind_own (Err f) e = fails_behind_own f e
