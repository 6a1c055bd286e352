-- Why a call is refused.
use Rattle.std.specs.Prelude.{◌≡◌, ◌⊎◌, ℕ, ◌+◌, ◌-◌, ◌^◌, ◌<◌, ◌≤◌, max, List, length, Some, None, is_some, IsTrue, Result, Ok, Err}
use Rattle.std.specs.List.{sum_by}
use Rattle.store_model.specs.declared.fault.Fault.{Fault}
use Rattle.store_model.specs.declared.fault.Fault.TheVariants as faults
use Rattle.wal_record.specs.Chains.{greatest}
use Rattle.wal_record.specs.Upkeep.{last_backup, last_run}
use Rattle.wal_record.specs.Spelling.{spelling}
use Rattle.wal_record.specs.History.{life_log, greatest_begun}
use Rattle.wal_record.specs.declared.record.Record.{Record}
use Rattle.wal_record.specs.declared.entry.Entry.{Entry}
use Rattle.page_ops.specs.Names.{LedgerName}
use Rattle.page_ops.specs.Desks.{Faults}
use Rattle.page_ops.specs.Seeing.{Account, Counted}

-- ---- the end of a life

-- the bytes of the log's blocks at most, where each record stands in a block of its own
abbrev pub log_bytes : List Record → ℕ
log_bytes log = sum_by (λ r. 24 + length (spelling r)) log

-- a count has reached 2^62: bytes or records of the log, numbers of transactions, backups or runs, entries
abbrev pub HasReachedLimit : List Record → List Entry → Type 0
HasReachedLimit opening h =
    let log = life_log opening h in
    2 ^ 62 ≤ max (log_bytes log) (max (greatest log) (max (greatest_begun h) (max (last_backup log) (max (last_run log) (length h)))))

-- the object doesn't know of an end, and met no fault of the log disk
abbrev pub IsOpen : Account → Type 0
IsOpen x = (x.ended ≡ None) × (x.log_faults.amount ≡ 0)

-- as much is known of an end as before, and no fault of the log disk came
pub record MeetsNoEnd (old new : Account) : Type 0 where
  pub ended : new.ended ≡ old.ended
  pub amount : new.log_faults.amount ≡ old.log_faults.amount

-- and none of the vault
pub record MeetsNoFault (old new : Account) : Type 0 where
  pub end : MeetsNoEnd old new
  pub vault : new.vault_faults.amount ≡ old.vault_faults.amount

-- so many sessions and desks were made that one of their numbers has reached 2^32 - 1, or not all were counted here
abbrev pub AreManyMade : LedgerName → Account → Type 0
AreManyMade made x = x.made.parts ≡ made.parts → 2 ^ 32 - 1 ≤ x.made.amount

-- Whoever has all parts of the ledger of the log disk's faults, none of which came before the call, finds the life
-- ended only where a count has reached its limit. It says so also of an end that was known before.
abbrev pub EndCause : (List Record → Type 0) → LedgerName → LedgerName → Account → List Entry → Type 0
EndCause opens log_faults made x h = x.log_faults.amount ≡ 0 → x.log_faults.parts ≡ log_faults.parts → (opening : List Record) → opens opening → HasReachedLimit opening h ⊎ AreManyMade made x

-- the life has ended, at the same LSN each time that it is told
pub record FindsEnd (opens : List Record → Type 0) (log_faults made : LedgerName) (old new : Account) (h : List Entry) (at : ℕ) : Type 0 where
  pub now : new.ended ≡ Some at
  pub before : (old.ended ≡ None) ⊎ (old.ended ≡ Some at)
  pub amount : new.log_faults.amount ≡ old.log_faults.amount
  pub cause : EndCause opens log_faults made old h

-- In an ended life a call is refused for that alone, or for want of memory. A fault of the log disk ends the life.
abbrev pub EndsBy : (List Record → Type 0) → LedgerName → LedgerName → Account → Account → List Entry → Fault → Type 0
EndsBy opens log_faults made old new h faults.Memory = MeetsNoEnd old new
EndsBy opens log_faults made old new h faults.LogFault = IsOpen old × IsTrue (is_some new.ended) × (old.log_faults.amount < new.log_faults.amount)
EndsBy opens log_faults made old new h (faults.Ended at) = FindsEnd opens log_faults made old new h at
EndsBy opens log_faults made old new h _ = IsOpen old × IsOpen new

abbrev pub Ends : {T : Type 0} → (List Record → Type 0) → LedgerName → LedgerName → Account → Account → List Entry → Result T Fault → Type 0
Ends opens log_faults made old new h (Ok x) = IsOpen old × IsOpen new
Ends opens log_faults made old new h (Err fault) = EndsBy opens log_faults made old new h fault

-- ---- which faults a call may answer

-- no log is known with which the life may have begun
abbrev pub IsUntold : (List Record → Type 0) → Type 0
IsUntold opens = (opening : List Record) → opens opening → ⊥

-- of a call that adds entries: want of memory, an ended life, and what else it names
abbrev pub FailsToEnter : (Fault → Type 0) → Fault → Type 0
FailsToEnter other faults.Memory = Unit {0}
FailsToEnter other (faults.Ended at) = Unit {0}
FailsToEnter other fault = other fault

-- of one that flushes the log
abbrev pub FailsToFlush : Fault → Type 0
FailsToFlush faults.LogFault = Unit {0}
FailsToFlush (faults.Ended at) = Unit {0}
FailsToFlush fault = ⊥

-- of one that reads the log: a block is bad only where the log isn't told
abbrev pub FailsToRead : (List Record → Type 0) → Fault → Type 0
FailsToRead opens faults.Memory = Unit {0}
FailsToRead opens faults.LogFault = Unit {0}
FailsToRead opens (faults.Ended at) = Unit {0}
FailsToRead opens (faults.LogBad block byte) = IsUntold opens
FailsToRead opens fault = ⊥

-- Of one that brings a page by device calls of its own and by a journal, with its faults and what the journal's object
-- knew before and after. One of their counts rose. The journal's object knows that the life has ended, and nothing of an
-- end after each other refusal. Bad blocks and objects come only where the log isn't told.
abbrev pub FailsToBring : (List Record → Type 0) → LedgerName → LedgerName → Faults → Faults → Account → Account → List Entry → Fault → Type 0
FailsToBring opens log_faults made own own_now old new h faults.Memory = MeetsNoEnd old new
FailsToBring opens log_faults made own own_now old new h faults.LogFault = IsTrue (is_some new.ended) × ((own.log < own_now.log) ⊎ (old.log_faults.amount < new.log_faults.amount))
FailsToBring opens log_faults made own own_now old new h faults.VaultFault = MeetsNoEnd old new × (own.vault < own_now.vault)
FailsToBring opens log_faults made own own_now old new h (faults.Ended at) = FindsEnd opens log_faults made old new h at
FailsToBring opens log_faults made own own_now old new h (faults.LogBad block byte) = MeetsNoEnd old new × IsUntold opens
FailsToBring opens log_faults made own own_now old new h (faults.VaultBad object byte) = MeetsNoEnd old new × IsUntold opens
FailsToBring opens log_faults made own own_now old new h fault = ⊥

-- of one that makes a frame free, the same without the vault
abbrev pub FailsToReserve : (List Record → Type 0) → LedgerName → LedgerName → Faults → Faults → Account → Account → List Entry → Fault → Type 0
FailsToReserve opens log_faults made own own_now old new h faults.VaultFault = ⊥
FailsToReserve opens log_faults made own own_now old new h (faults.LogBad block byte) = ⊥
FailsToReserve opens log_faults made own own_now old new h (faults.VaultBad object byte) = ⊥
FailsToReserve opens log_faults made own own_now old new h fault = FailsToBring opens log_faults made own own_now old new h fault

-- no other fault
abbrev pub NoOther : Fault → Type 0
NoOther fault = ⊥

abbrev pub OrFull : Fault → Type 0
OrFull (faults.Full pages pending at) = Unit {0}
OrFull fault = ⊥

abbrev pub OrConflict : Fault → Type 0
OrConflict (faults.Conflict holder range at) = Unit {0}
OrConflict fault = ⊥

abbrev pub OrTooMany : Fault → Type 0
OrTooMany faults.TooManyActive = Unit {0}
OrTooMany fault = ⊥

-- the life has ended
abbrev pub IsEnd : Fault → Type 0
IsEnd (faults.Ended at) = Unit {0}
IsEnd fault = ⊥

-- one session or desk more was made, where the call made it
abbrev pub with_one : {T : Type 0} → Counted → Result T Fault → Counted
with_one x (Ok made) = record x { amount = x.amount + 1 }
with_one x (Err fault) = x
