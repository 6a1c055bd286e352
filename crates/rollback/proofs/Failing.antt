-- Why a call of the journal, or a call behind others, is refused.
use Rattle.std.proofs.Common.{◌≡◌, List, Result, Ok, Err, true, false, refl, sym, subst, ◌∙◌, inr}
use Rattle.std.specs.Prelude.{IfErr, OnOk}
use Rattle.store_model.specs.declared.fault.Fault.{Fault}
use Rattle.store_model.specs.declared.fault.Fault.TheVariants as faults
use Rattle.wal_record.specs.declared.record.Record.{Record}
use Rattle.wal_record.specs.declared.entry.Entry.{Entry}
use Rattle.page_ops.specs.Causes.{Ends, EndsBy, FailsToBring, FailsToEnter, FailsToRead, IsOpen, MeetsNoEnd, NoOther, OrFull}
use Rattle.page_ops.specs.Desks.{Faults, KeepsFaults}
use Rattle.page_ops.specs.Names.{LedgerName}
use Rattle.page_ops.specs.Outcomes.{IsFull}
use Rattle.page_ops.specs.Seeing.{Account, Keeps}
use Rattle.page_ops.specs.declared.group.Group.{Group}
use Rattle.page_ops.proofs.Composing.{bring_then, done_meets_none}

pub none_met : (a : Account) → MeetsNoEnd a a
none_met a = record { ended = refl; amount = refl }

pub none_then : (a b c : Account) → MeetsNoEnd a b → MeetsNoEnd b c → MeetsNoEnd a c
none_then a b c x y = record { ended = y.ended ∙ x.ended; amount = y.amount ∙ x.amount }

module _ (opens : List Record → Type 0) (log_faults made : LedgerName) (old new : Account) (h : List Entry) where
  both_open : IsOpen old → IsOpen new → MeetsNoEnd old new
  both_open x y = record { ended = y.0 ∙ sym x.0; amount = y.1 ∙ sym x.1 }

  -- a look at the log
  pub read_fault : (own : Faults) (f : Fault) → FailsToRead opens f → EndsBy opens log_faults made old new h f → FailsToBring opens log_faults made own own old new h f
  read_fault own faults.Memory may why = why
  read_fault own faults.LogFault may why = (why.1, inr why.2)
  read_fault own (faults.Ended at) may why = why
  read_fault own (faults.LogBad block byte) may why = (both_open why.0 why.1, may)
  read_fault own _ may why = absurd may

  -- a group that asks for no room
  enter_fault : (own : Faults) (g : Group) (f : Fault) → g.room ≡ false → IsFull opens h g f → FailsToEnter OrFull f → EndsBy opens log_faults made old new h f → FailsToBring opens log_faults made own own old new h f
  enter_fault own g faults.Memory none full may why = why
  enter_fault own g (faults.Ended at) none full may why = why
  enter_fault own g (faults.Full pages pending at) none full may why = absurd (let clash : true ≡ false = sym full.0 ∙ none in cc clash)
  enter_fault own g _ none full may why = absurd may

  pub read_fails : {T : Type 0} (own own' : Faults) (r : Result T Fault) → own' ≡ own → IfErr r (FailsToRead opens) → Ends opens log_faults made old new h r → IfErr r (FailsToBring opens log_faults made own own' old new h)
  read_fails own own' (Ok x) same may ends = tt
  read_fails own own' (Err f) same may ends = subst (λ (o : Faults). FailsToBring opens log_faults made own o old new h f) (sym same) (read_fault own f may ends)

  pub enter_fails : {T : Type 0} (own own' : Faults) (g : Group) (r : Result T Fault) → own' ≡ own → g.room ≡ false → IfErr r (IsFull opens h g) → IfErr r (FailsToEnter OrFull) → Ends opens log_faults made old new h r → IfErr r (FailsToBring opens log_faults made own own' old new h)
  enter_fails own own' g (Ok x) same none full may ends = tt
  enter_fails own own' g (Err f) same none full may ends = subst (λ (o : Faults). FailsToBring opens log_faults made own o old new h f) (sym same) (enter_fault own g f none full may ends)

  pub done : {T : Type 0} (r : Result T Fault) → Ends opens log_faults made old new h r → OnOk r (MeetsNoEnd old new)
  done (Ok x) ends = done_meets_none opens log_faults made old new h x ends
  done (Err f) ends = tt

-- behind calls that met no end
module _ (opens : List Record → Type 0) (log_faults made : LedgerName) (first old new : Account) (h : List Entry) (none : MeetsNoEnd first old) (keeps : Keeps first old) where
  pub fails_then : {T : Type 0} (own0 own own_now : Faults) (r : Result T Fault) → KeepsFaults own0 own → IfErr r (FailsToBring opens log_faults made own own_now old new h) → IfErr r (FailsToBring opens log_faults made own0 own_now first new h)
  fails_then own0 own own_now (Ok x) kept why = tt
  fails_then own0 own own_now (Err f) kept why = bring_then opens log_faults made first old new h none keeps own0 own own_now f kept why

  pub done_then : {T : Type 0} (r : Result T Fault) → OnOk r (MeetsNoEnd old new) → OnOk r (MeetsNoEnd first new)
  done_then (Ok x) then = none_then first old new none then
  done_then (Err f) then = tt

-- a group that asks for no room, of a caller that knows so
module _ (opens : List Record → Type 0) (log_faults made : LedgerName) (old new : Account) (h : List Entry) where
  plain_fault : (own : Faults) (f : Fault) → FailsToEnter NoOther f → EndsBy opens log_faults made old new h f → FailsToBring opens log_faults made own own old new h f
  plain_fault own faults.Memory may why = why
  plain_fault own (faults.Ended at) may why = why
  plain_fault own _ may why = absurd may

  pub plain_fails : {T : Type 0} (own : Faults) (r : Result T Fault) → IfErr r (FailsToEnter NoOther) → Ends opens log_faults made old new h r → IfErr r (FailsToBring opens log_faults made own own old new h)
  plain_fails own (Ok x) may ends = tt
  plain_fails own (Err f) may ends = plain_fault own f may ends
