-- The cause of a refusal is said of what the object knew before its own call. Where the calls before it met no end, it
-- is that of what the object knew before them, too. So a call that makes many calls passes on the cause of the last one.
use Rattle.std.proofs.Common.{◌≡◌, ℕ, List, Some, None, sym, ◌∙◌, subst, arith, inl, inr}
use Rattle.std.specs.Prelude.{◌⊎◌, ◌-◌, ◌^◌, ◌<◌, ◌≤◌, Result, Ok, Err}
use Rattle.store_model.specs.declared.fault.Fault.{Fault}
use Rattle.store_model.specs.declared.fault.Fault.TheVariants as faults
use Rattle.wal_record.specs.declared.record.Record.{Record}
use Rattle.wal_record.specs.declared.entry.Entry.{Entry}
use Rattle.page_ops.specs.Names.{LedgerName}
use Rattle.page_ops.specs.Causes.{HasReachedLimit, IsOpen, MeetsNoEnd, EndCause, FindsEnd, EndsBy, Ends, FailsToBring}
use Rattle.page_ops.specs.Desks.{Faults, KeepsFaults}
use Rattle.page_ops.specs.Seeing.{Account, Counted, Keeps}

-- a call that was done met no end
pub done_meets_none : {T : Type 0} (opens : List Record → Type 0) (log_faults made : LedgerName) (old new : Account) (h : List Entry) (x : T) → Ends opens log_faults made old new h (Ok x) → MeetsNoEnd old new
done_meets_none opens log_faults made old new h x e = record { ended = e.1.0 ∙ sym e.0.0; amount = e.1.1 ∙ sym e.0.1 }

module _ (opens : List Record → Type 0) (log_faults made : LedgerName) (first old new : Account) (h : List Entry) (none : MeetsNoEnd first old) (keeps : Keeps first old) where
  pub none_then : MeetsNoEnd old new → MeetsNoEnd first new
  none_then then = record { ended = then.ended ∙ none.ended; amount = then.amount ∙ none.amount }

  open_before : IsOpen old → IsOpen first
  open_before e = (sym none.ended ∙ e.0, sym none.amount ∙ e.1)

  cause_then : EndCause opens log_faults made old h → EndCause opens log_faults made first h
  cause_then cause whole parts opening stands = subst (λ (x : Counted). HasReachedLimit opening h ⊎ (x.parts ≡ made.parts → 2 ^ 32 - 1 ≤ x.amount)) keeps.made (cause (none.amount ∙ whole) (keeps.log_parts ∙ parts) opening stands)

  known_before : (at : ℕ) → (old.ended ≡ None) ⊎ (old.ended ≡ Some at) → (first.ended ≡ None) ⊎ (first.ended ≡ Some at)
  known_before at (inl e) = inl (sym none.ended ∙ e)
  known_before at (inr e) = inr (sym none.ended ∙ e)

  end_then : (at : ℕ) → FindsEnd opens log_faults made old new h at → FindsEnd opens log_faults made first new h at
  end_then at e = record { now = e.now; before = known_before at e.before; amount = e.amount ∙ none.amount; cause = cause_then e.cause }

  less_then : old.log_faults.amount < new.log_faults.amount → first.log_faults.amount < new.log_faults.amount
  less_then less = omega (arith, less, none.amount)

  pub ends_by_then : (f : Fault) → EndsBy opens log_faults made old new h f → EndsBy opens log_faults made first new h f
  ends_by_then faults.Memory e = none_then e
  ends_by_then faults.LogFault e = (open_before e.0, e.1, less_then e.2)
  ends_by_then (faults.Ended at) e = end_then at e
  ends_by_then _ e = (open_before e.0, e.1)

  -- the cause of a later call
  pub ends_then : {T : Type 0} (r : Result T Fault) → Ends opens log_faults made old new h r → Ends opens log_faults made first new h r
  ends_then (Ok x) e = (open_before e.0, e.1)
  ends_then (Err f) e = ends_by_then f e

  -- the same of a call that brings a page
  pub bring_then : (own0 own own_now : Faults) (f : Fault) → KeepsFaults own0 own → FailsToBring opens log_faults made own own_now old new h f → FailsToBring opens log_faults made own0 own_now first new h f
  bring_then own0 own own_now faults.Memory k e = none_then e
  bring_then own0 own own_now faults.LogFault k e = (
    e.0,
    elim e.1 [
      | inl less ↦ inl (omega (arith, less, k.log))
      | inr less ↦ inr (less_then less)
    ],
  )
  bring_then own0 own own_now faults.VaultFault k e = (none_then e.0, omega (arith, e.1, k.vault))
  bring_then own0 own own_now (faults.Ended at) k e = end_then at e
  bring_then own0 own own_now (faults.LogBad block byte) k e = (none_then e.0, e.1)
  bring_then own0 own own_now (faults.VaultBad object byte) k e = (none_then e.0, e.1)
  bring_then own0 own own_now _ k e = absurd e
