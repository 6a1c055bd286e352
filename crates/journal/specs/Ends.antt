-- What a thread knows then, where a call finds the life ended, wants memory, or meets a fault of the log disk.
use Rattle.std.specs.Prelude.{◌≡◌, ◌⊎◌, ℕ, ◌+◌, Option, Some, None, is_some, true, Result, Ok, Err}
use Rattle.store_model.specs.declared.fault.Fault.{Fault}
use Rattle.store_model.specs.declared.fault.Fault.TheVariants as faults
use Rattle.life_history.specs.Kept.{HasCause}
use Rattle.page_ops.specs.Names.{LedgerName}
use Rattle.page_ops.specs.Seeing.{Account}

-- The life has ended. From now on it knows that, and up to which LSN the log was durable then, which is the one that it
-- knew, if it knew one.
abbrev pub IsToldEnd : LedgerName → Account → Account → Fault → Type 0
IsToldEnd log_faults old new (faults.Ended at) = (new ≡ record old { ended = Some at }) × ((old.ended ≡ None) ⊎ (old.ended ≡ Some at)) × HasCause log_faults old.log_faults
IsToldEnd log_faults old new fault = ⊥

-- that, or it wants memory, and knows what it knew
abbrev pub IsStopped : LedgerName → Account → Account → Fault → Type 0
IsStopped log_faults old new faults.Memory = new ≡ old
IsStopped log_faults old new fault = IsToldEnd log_faults old new fault

-- A fault of the log disk was counted, and it knows an end. A thread's counts tell nothing of the disk's calls.
pub record IsFailed (old new : Account) : Type 0 where
  pub untold : old.calls ≡ None
  pub at : ℕ
  pub is : new ≡ record old { log_faults = record { parts = old.log_faults.parts; amount = old.log_faults.amount + 1 }; ended = Some at }

-- No device call failed: the log goes on, and no fault was counted.
pub record GoesOn (ended : Option ℕ) (before after : ℕ) (old new : Account) : Type 0 where
  pub runs : ended ≡ None
  pub faults : after ≡ before
  pub counts : new ≡ old

-- One failed: the log has ended, and a fault was counted.
pub record BreaksOff (ended : Option ℕ) (before after : ℕ) (old new : Account) : Type 0 where
  pub over : is_some ended ≡ true
  pub faults : after ≡ before + 1
  pub failed : IsFailed old new

-- what a call of the log's disk makes of the life, by its answer
abbrev pub EndsCall : {A : Type 0} → Option ℕ → ℕ → ℕ → Account → Account → Result A Fault → Type 0
EndsCall ended before after old new (Ok x) = GoesOn ended before after old new
EndsCall ended before after old new (Err faults.LogFault) = BreaksOff ended before after old new
EndsCall ended before after old new (Err fault) = GoesOn ended before after old new

-- a read is refused for want of memory, by a fault of the disk, or since a block is bad, which none is of a log that is
-- known
abbrev pub IsUnread : Fault → Type 0
IsUnread faults.Memory = Unit {0}
IsUnread faults.LogFault = Unit {0}
IsUnread (faults.LogBad block byte) = Unit {0}
IsUnread fault = ⊥
