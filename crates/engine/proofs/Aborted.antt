-- The undo of the session's transaction.
use Rattle.std.proofs.Common.{ℕ, List, [], Result, refl}
use Rattle.std.specs.Prelude.{IfErr}
use Rattle.front.specs.Seen.{PassSeen}
use Rattle.store_model.specs.declared.fault.Fault.{Fault}
use Rattle.wal_record.specs.declared.record.Record.{Record}
use Rattle.wal_record.specs.declared.entry.Entry.{Entry}
use Rattle.page_ops.specs.Causes.{FailsToBring, MeetsNoEnd}
use Rattle.page_ops.specs.Claims.{Claims, no_claims}
use Rattle.page_ops.specs.Desks.{Desk}
use Rattle.page_ops.specs.Names.{LedgerName}
use Rattle.page_ops.specs.Seeing.{Account, Enters, known}
use Rattle.page_ops.proofs.Gaining.{gains_of, gains_then}
use Rattle.rollback.specs.Endings.{RollsOver}
use Rattle.rollback.specs.Rolls.{standing}
use Rattle.rollback.proofs.Composing.{faults_self, reclaimed}
use Rattle.rollback.proofs.Failing.{fails_then}

module _ (opens : List Record → Type 0) (ledger sessions log_faults made : LedgerName) (d d' : Desk) (a a1 a2 : Account) (t t1 t2 : PassSeen Entry) (x x' : Claims) (looked : Enters opens ledger sessions (known a t x) [] (known a1 t1 x')) (tx : ℕ) where
  pub rolled_looked : RollsOver opens ledger sessions tx (standing d a1 t1) (standing d' a2 t2) → RollsOver opens ledger sessions tx (standing d a t) (standing d' a2 t2)
  rolled_looked r = record {
    own = r.own;
    gains = gains_then opens ledger sessions [] r.own (known a t no_claims) (known a1 t1 no_claims) (known a2 t2 no_claims) (reclaimed opens ledger sessions [] a a1 t t1 x x' no_claims no_claims (gains_of opens ledger sessions [] (known a t x) (known a1 t1 x') looked)) r.gains;
    kinds = r.kinds;
    faults = r.faults;
  }

  -- nothing but the look
  pub only_looked : RollsOver opens ledger sessions tx (standing d a t) (standing d a1 t1)
  only_looked = record { own = []; gains = reclaimed opens ledger sessions [] a a1 t t1 x x' no_claims no_claims (gains_of opens ledger sessions [] (known a t x) (known a1 t1 x') looked); kinds = refl; faults = faults_self d.faults }

  module _ {T : Type 0} (result : Result T Fault) (calm : MeetsNoEnd a a1) where
    pub refused_looked : IfErr result (FailsToBring opens log_faults made d.faults d'.faults a1 a2 t2.log) → IfErr result (FailsToBring opens log_faults made d.faults d'.faults a a2 t2.log)
    refused_looked why = fails_then opens log_faults made a a1 a2 t2.log calm looked.keeps d.faults d.faults d'.faults result (faults_self d.faults) why
