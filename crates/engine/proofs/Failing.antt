-- Why a request is refused, behind calls that met no end.
use Rattle.std.proofs.Common.{List, sym, ◌∙◌}
use Rattle.store_model.specs.declared.fault.Fault.{Fault}
use Rattle.store_model.specs.declared.fault.Fault.TheVariants as faults
use Rattle.wal_record.specs.declared.record.Record.{Record}
use Rattle.wal_record.specs.declared.entry.Entry.{Entry}
use Rattle.page_ops.specs.Causes.{EndsBy, FailsToBring, FailsToEnter, IsOpen, MeetsNoEnd, OrConflict}
use Rattle.page_ops.specs.Desks.{Faults, KeepsFaults}
use Rattle.page_ops.specs.Names.{LedgerName}
use Rattle.page_ops.specs.Seeing.{Account, Keeps}
use Rattle.page_ops.proofs.Composing.{bring_then}
use Rattle.engine.specs.Answers.{FailsToAsk}

module _ (may : Fault → Type 0) (opens : List Record → Type 0) (log_faults made : LedgerName) where
  -- as a page that is brought may be
  pub ask_fault : (own own' : Faults) (old new : Account) (h : List Entry) (f : Fault) → FailsToBring opens log_faults made own own' old new h f → FailsToAsk may opens log_faults made own own' old new h f
  ask_fault own own' old new h (faults.Conflict holder range at) why = absurd why
  ask_fault own own' old new h (faults.Full pages pending at) why = absurd why
  ask_fault own own' old new h (faults.OpRefused at) why = absurd why
  ask_fault own own' old new h _ why = why

  -- the cause of a later call
  module _ (first old new : Account) (h : List Entry) (none : MeetsNoEnd first old) (keeps : Keeps first old) where
    open_before : IsOpen old → IsOpen first
    open_before e = (sym none.ended ∙ e.0, sym none.amount ∙ e.1)

    pub ask_then : (own0 own own_now : Faults) (f : Fault) → KeepsFaults own0 own → FailsToAsk may opens log_faults made own own_now old new h f → FailsToAsk may opens log_faults made own0 own_now first new h f
    ask_then own0 own own_now (faults.Conflict holder range at) k e = (e.0, open_before e.1, e.2)
    ask_then own0 own own_now (faults.Full pages pending at) k e = (e.0, open_before e.1, e.2)
    ask_then own0 own own_now (faults.OpRefused at) k e = (e.0, open_before e.1, e.2)
    ask_then own0 own own_now f k e = bring_then opens log_faults made first old new h none keeps own0 own own_now f k e

-- more refusals may come
pub ask_more : (may may' : Fault → Type 0) → ((f : Fault) → may f → may' f) → (opens : List Record → Type 0) (log_faults made : LedgerName) (own own' : Faults) (old new : Account) (h : List Entry) (f : Fault) → FailsToAsk may opens log_faults made own own' old new h f
    → FailsToAsk may' opens log_faults made own own' old new h f
ask_more may may' more opens log_faults made own own' old new h (faults.Conflict holder range at) e = (more _ e.0, e.1, e.2)
ask_more may may' more opens log_faults made own own' old new h (faults.Full pages pending at) e = (more _ e.0, e.1, e.2)
ask_more may may' more opens log_faults made own own' old new h (faults.OpRefused at) e = (more _ e.0, e.1, e.2)
ask_more may may' more opens log_faults made own own' old new h _ e = e

-- of the lock
module _ (opens : List Record → Type 0) (log_faults made : LedgerName) (old new : Account) (h : List Entry) where
  pub lock_fault : (own : Faults) (f : Fault) → FailsToEnter OrConflict f → EndsBy opens log_faults made old new h f → FailsToAsk OrConflict opens log_faults made own own old new h f
  lock_fault own faults.Memory may why = why
  lock_fault own (faults.Ended at) may why = why
  lock_fault own (faults.Conflict holder range at) may why = (tt, why.0, why.1)
  lock_fault own _ may why = absurd may
