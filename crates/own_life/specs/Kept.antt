-- What holds of a life between its calls, and how refusals of the layers below are told.
use Rattle.std.specs.Prelude.{◌≡◌, ◌≤◌, List, None, Result, Ok, Err, IfSome}
use Rattle.store_model.specs.declared.fault.Fault.{Fault}
use Rattle.store_model.specs.declared.fault.Fault.TheVariants as faults
use Rattle.wal_record.specs.declared.entry.Entry.{Entry}
use Rattle.wal_record.specs.declared.record.Record.{Record}
use Rattle.page_ops.specs.Names.{LedgerName}
use Rattle.page_ops.specs.Seeing.{Account}
use Rattle.journal.specs.State.{JournalState}
use Rattle.journal.specs.Stops.{IsDurableUpto}
use Rattle.life_history.specs.Kept.{HasCause}
use Rattle.own_journal.specs.Told.{told}
use Rattle.store_life.specs.SoFar.{HasNames, Runs}
use Rattle.store_life.specs.declared.life.StoreLife.{StoreLife}

-- Nobody else enters anything, each live transaction has a name, and the pass has seen the whole history. All faults of the log
-- disk are counted here, and where no end is known there was none.
pub record IsKept {N : Type 0} (opens : List Record → Type 0) (entries log_faults : LedgerName) (account : Account) (history : List Entry) (life : StoreLife N) : Type 0 where
  pub runs : Runs opens entries account life
  pub named : HasNames life
  pub whole : life.pass.log ≡ history
  pub parts : account.log_faults.parts ≡ log_faults.parts
  pub faults : account.ended ≡ None → account.log_faults.amount ≡ 0

-- The whole history was seen, and nothing else has changed. Where the thread's counts know of an end, the log was durable up to it,
-- and it has its cause.
pub record Sees {N : Type 0} (opens : List Record → Type 0) (entries log_faults : LedgerName) (old_counts new_counts : Account) (old_journal new_journal : JournalState) (old_life new_life : StoreLife N) : Type 0 where
  pub runs : Runs opens entries (told new_counts new_journal.calls) new_life
  pub counts : new_counts ≡ old_counts
  pub journal : new_journal ≡ old_journal
  pub names : new_life.named.items ≡ old_life.named.items
  pub history : new_life.pass.log ≡ old_life.pass.log
  pub whole : new_life.pass.log ≡ new_journal.history
  pub later : old_life.pass.durable ≤ new_life.pass.durable
  pub durable : (opening : List Record) → opens opening → IfSome old_counts.ended (IsDurableUpto opening new_life.pass.log)
  pub cause : IfSome old_counts.ended (λ at. HasCause log_faults old_counts.log_faults)

-- a crowd of transactions without names is told as want of memory
abbrev pub without_crowd : {T : Type 0} → Result T Fault → Result T Fault
without_crowd (Ok x) = Ok x
without_crowd (Err faults.TooManyActive) = Err faults.Memory
without_crowd (Err fault) = Err fault
