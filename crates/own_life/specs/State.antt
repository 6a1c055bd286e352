-- A life as contracts see it, and what its calls make of it.
use Rattle.std.specs.Prelude.{◌≡◌, ◌⊎◌, ◌==◌, ◌<◌, ◌≤◌, ℕ, List, [], ◌∷◌, ◌++◌, length, Option, Some, None, Result, Ok, Err}
use Rattle.std.specs.List.{find}
use Rattle.std.specs.Option.{option_map}
use Rattle.media.specs.Cause.{Rose}
use Rattle.media.specs.declared.disk.Disk as disks
use Rattle.media.specs.declared.pages.PageDevice as pages
use Rattle.media.specs.declared.vault.Vault as vaults
use Rattle.store_model.specs.declared.fault.Fault.{Fault}
use Rattle.store_model.specs.declared.fault.Fault.TheVariants as faults
use Rattle.wal_record.specs.Checkpoints.{commits}
use Rattle.wal_record.specs.History.{life_log}
use Rattle.wal_record.specs.declared.entry.Entry.{Entry}
use Rattle.wal_record.specs.declared.entry.Entry.TheVariants.{Rec}
use Rattle.wal_record.specs.declared.record.Record.{Record}
use Rattle.page_ops.specs.Causes.{IsUntold}
use Rattle.page_ops.specs.Seeing.{Calls}
use Rattle.page_ops.specs.declared.outcome.Committed.{Committed}
use Rattle.page_repair.specs.Images.{AreWritten}
use Rattle.named_objects.specs.Named.{AreNamed}
use Rattle.journal.specs.State.{calls_of}
use Rattle.journal.specs.Stops.{IsDurableUpto, Leaves}
use Rattle.command_laws.specs.Commands.{Begins, Commits, commit_record}
use Rattle.command_laws.specs.Names.{Active}

-- its history, an LSN up to which the log is known to be durable, the active transactions in the order of their beginning, the
-- LSN up to which the log was durable as the life ended, if it has, and what the log disk tells of its calls
pub record LifeState : Type 0 where
  pub history : List Entry
  pub durable : ℕ
  pub active : List Active
  pub ended : Option ℕ
  pub calls : Calls

-- the name of the first active transaction with this number
abbrev pub name_by : ℕ → List Active → Option (List ℕ)
name_by tx active = option_map (λ (a : Active). a.name) (find (λ (a : Active). a.tx == tx) active)

-- nothing has happened yet in it, and the log with which it began is durable
pub record HasJustBegun (opens : List Record → Type 0) (told : Calls) (x : LifeState) : Type 0 where
  pub history : x.history ≡ []
  pub durable : (opening : List Record) → opens opening → length opening ≤ x.durable
  pub active : x.active ≡ []
  pub ended : x.ended ≡ None
  pub calls : x.calls ≡ told

-- ---- calls of the log disk

-- Any number of calls, the last of which may have failed: where no fuse is armed none is refused and none is armed; the counts
-- don't fall; and a call that failed did so by itself, or a fuse refused it.
pub record CallsGoOn (failed : Type 0) (old new : Calls) : Type 0 where
  pub unarmed : old.passes ≡ None → (new.passes ≡ None) × (new.refused ≡ old.refused)
  pub refused : old.refused ≤ new.refused
  pub own : old.own ≤ new.own
  pub cause : failed → Rose old.own new.own ⊎ Rose old.refused new.refused

-- ---- how a call leaves the life

-- it goes on; that no call of the log disk failed isn't said
pub record GoesOn (old new : LifeState) : Type 0 where
  pub ended : new.ended ≡ None
  pub later : old.durable ≤ new.durable
  pub calls : CallsGoOn ⊥ old.calls new.calls

-- A call of the log disk failed, which has ended the life. The opening log and each acknowledged commit are durable.
pub record BreaksOff (opens : List Record → Type 0) (old new : LifeState) : Type 0 where
  pub at : ℕ
  pub ended : new.ended ≡ Some at
  pub later : old.durable ≤ new.durable
  pub durable : (opening : List Record) → opens opening → IsDurableUpto opening new.history at
  pub calls : CallsGoOn (Unit {0}) old.calls new.calls

-- Want of memory, which is also told where a count of the life is used up; a fault of the log disk; and a block of the log that
-- can't be read, which comes only where no log is known with which the life may have begun.
abbrev pub Fails : (List Record → Type 0) → LifeState → LifeState → Fault → Type 0
Fails opens old new faults.Memory = GoesOn old new
Fails opens old new faults.LogFault = BreaksOff opens old new
Fails opens old new (faults.LogBad block byte) = GoesOn old new × IsUntold opens
Fails opens old new fault = ⊥

-- The same of a call that may read the vault, of whose faults so many were counted before it, and so many behind it: one was
-- counted; or an object can't be read, which comes only where no log is known with which the life may have begun.
abbrev pub FailsOver : (List Record → Type 0) → ℕ → ℕ → LifeState → LifeState → Fault → Type 0
FailsOver opens before now old new faults.VaultFault = GoesOn old new × (before < now)
FailsOver opens before now old new (faults.VaultBad object byte) = GoesOn old new × IsUntold opens
FailsOver opens before now old new fault = Fails opens old new fault

-- the same of a request, which may be refused by its answer
abbrev pub FailsToAnswer : (Fault → Type 0) → (List Record → Type 0) → ℕ → ℕ → LifeState → LifeState → Fault → Type 0
FailsToAnswer may opens before now old new (faults.Conflict holder range at) = may (faults.Conflict holder range at) × GoesOn old new
FailsToAnswer may opens before now old new (faults.Full pages pending at) = may (faults.Full pages pending at) × GoesOn old new
FailsToAnswer may opens before now old new (faults.OpRefused at) = may (faults.OpRefused at) × GoesOn old new
FailsToAnswer may opens before now old new fault = FailsOver opens before now old new fault

-- of a begin: so many names are active that no more may be, or memory is wanted
abbrev pub FailsToBegin : LifeState → LifeState → Fault → Type 0
FailsToBegin old new faults.TooManyActive = GoesOn old new
FailsToBegin old new faults.Memory = GoesOn old new
FailsToBegin old new fault = ⊥

-- of one that only looks
abbrev pub FailsToLook : LifeState → LifeState → Fault → Type 0
FailsToLook old new faults.Memory = GoesOn old new
FailsToLook old new fault = ⊥

-- of one that makes the log durable
abbrev pub FailsToFlush : (List Record → Type 0) → LifeState → LifeState → Fault → Type 0
FailsToFlush opens old new faults.Memory = GoesOn old new
FailsToFlush opens old new faults.LogFault = BreaksOff opens old new
FailsToFlush opens old new fault = ⊥

-- of a commit, which wants no memory
abbrev pub FailsToCommit : (List Record → Type 0) → LifeState → LifeState → Fault → Type 0
FailsToCommit opens old new faults.LogFault = BreaksOff opens old new
FailsToCommit opens old new fault = ⊥

-- ---- what a call enters

-- the transaction has begun by this name, or all is as before
abbrev pub BeginsAs : List ℕ → Result ℕ Fault → LifeState → LifeState → Type 0
BeginsAs name (Ok tx) old new =
    (session : ℕ) × (own : List Entry) × Begins old.history session tx own × (new.history ≡ old.history ++ own)
    × (new.active ≡ old.active ++ record { name = name; session = session; tx = tx } ∷ [])
BeginsAs name (Err fault) old new = (new.history ≡ old.history) × (new.active ≡ old.active)

-- the Commit was entered and acknowledged
pub record IsDone (opens : List Record → Type 0) (session tx : ℕ) (answer : Committed) (h h' : List Entry) : Type 0 where
  pub own : List Entry
  pub made : Commits session tx own
  pub added : h' ≡ h ++ own
  pub place : answer.pos ≡ length h'
  pub number : (opening : List Record) → opens opening → answer.number ≡ commits (life_log opening h')

-- nothing was entered, or the Commit alone, which isn't acknowledged
abbrev pub MayBeDone : ℕ → List Entry → List Entry → Type 0
MayBeDone tx h h' = (h' ≡ h) ⊎ ((lsn : ℕ) × (prev : ℕ) × (h' ≡ h ++ Rec lsn (commit_record tx prev) ∷ []))

abbrev pub IsCommitted : (List Record → Type 0) → ℕ → ℕ → Result Committed Fault → List Entry → List Entry → Type 0
IsCommitted opens session tx (Ok answer) h h' = IsDone opens session tx answer h h'
IsCommitted opens session tx (Err fault) h h' = MayBeDone tx h h'

-- ---- what a life leaves

-- What the log disk keeps as the life ends, and what it keeps after a crash that comes then, stands for a log that a stop may
-- leave of the life, with so many records at least; each image of the data device is made of so many of the life's records at
-- most; and each object that the life's log names is synced in the vault. So it is in each such log.
pub record AreLeft {D E F : Type 0} (L : disks.Ghosts D) (P : pages.Ghosts E) (V : vaults.Ghosts F) (opens : List Record → Type 0) (x : LifeState) (disk : D) (device : E) (vault : F) : Type 0 where
  pub kept : ℕ
  pub durable : x.durable ≤ kept
  pub left : Leaves opens L.told L.may_leave x.history kept disk
  pub images : P.tells → AreWritten opens P.told (record { log = x.history; durable = kept }) device
  pub objects : V.tells → AreNamed opens V.told x.history vault
  pub calls : calls_of L.passes L.refused L.own disk ≡ x.calls
