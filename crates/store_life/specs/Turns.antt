-- What each command of a life adds to its history, by its answer.
use Rattle.std.specs.Prelude.{◌≡◌, ◌⊎◌, ◌<◌, ◌≤◌, ℕ, List, [], ◌∷◌, ◌++◌, length, None, Result, Ok, Err}
use Rattle.std.specs.List.{All}
use Rattle.books.specs.Rights.{SessionClaim}
use Rattle.front.specs.Seen.{PassSeen}
use Rattle.store_model.specs.declared.fault.Fault.{Fault}
use Rattle.store_model.specs.declared.fault.Fault.TheVariants as faults
use Rattle.store_model.specs.declared.reply.Outcome.TheVariants as outcomes
use Rattle.store_model.specs.declared.request.Request.{Request}
use Rattle.wal_record.specs.Checkpoints.{commits}
use Rattle.wal_record.specs.History.{life_log}
use Rattle.wal_record.specs.Legal.{untold}
use Rattle.wal_record.specs.Locks.{Held}
use Rattle.wal_record.specs.declared.record.Checkpoint.{Checkpoint}
use Rattle.wal_record.specs.declared.record.Lost.{Lost}
use Rattle.wal_record.specs.declared.record.Record.{Record}
use Rattle.wal_record.specs.declared.record.Record.TheVariants as kinds
use Rattle.wal_record.specs.declared.entry.Entry.{Entry}
use Rattle.wal_record.specs.declared.entry.Entry.TheVariants.{Rec}
use Rattle.page_ops.specs.Causes.{IsOpen, IsUntold}
use Rattle.page_ops.specs.Seeing.{Account}
use Rattle.page_ops.specs.declared.outcome.Committed.{Committed}
use Rattle.command_laws.specs.Commands.{Aborts, Amid, Answers, Begins, Commits, IsBesideRequest, IsUpkeep, TakesBack, Tells, commit_record}
use Rattle.engine.specs.Answers.{HadRoom, IsReply}
use Rattle.engine.specs.Beside.{IsInWay}
use Rattle.engine.specs.Requests.{lock_of}
use Rattle.engine.specs.Sittings.{Sitting}
use Rattle.engine.specs.declared.answered.Answered.{Answered}

-- ---- begin

-- the session's transaction has begun in it, or nothing was entered
abbrev pub HasBegun : Result ℕ Fault → SessionClaim → List Entry → List Entry → Type 0
HasBegun (Ok tx) s h h' = (s.tx ≡ tx) × (0 < tx) × (own : List Entry) × Begins h s.session tx own × (h' ≡ h ++ own)
HasBegun (Err fault) s h h' = h' ≡ h

abbrev pub IsBegun : Result Sitting Fault → List Entry → List Entry → Type 0
IsBegun (Ok s) h h' = (0 < s.claim.tx) × (own : List Entry) × Begins h s.claim.session s.claim.tx own × (h' ≡ h ++ own)
IsBegun (Err fault) h h' = h' ≡ h

-- ---- requests

-- The own entries of a request of the session's transaction. Behind other refusals there are none.
abbrev pub AreOwn : ℕ → ℕ → Request → Result Answered Fault → List Entry → Type 0
AreOwn session tx request (Ok a) own = Answers session tx request (lock_of request) (outcomes.Replied a.reply) own
AreOwn session tx request (Err (faults.Conflict holder range at)) own = Answers session tx request (lock_of request) (outcomes.Conflict holder range) own
AreOwn session tx request (Err (faults.Full pages pending at)) own = Answers session tx request (lock_of request) (outcomes.Full pages pending) own
AreOwn session tx request (Err (faults.OpRefused at)) own = Answers session tx request (lock_of request) outcomes.OpRefused own
AreOwn session tx request (Err fault) own = own ≡ []

-- a loser of the opening log that held a lock in conflict with this one, of each log with which the life may have begun
abbrev pub WasInWay : (List Record → Type 0) → List Entry → Held → ℕ → Type 0
WasInWay opens h lock t = (opening : List Record) → opens opening → IsInWay opening h lock t

-- the request's own entries were added, and beside them others
pub record Asks (opens : List Record → Type 0) (session tx : ℕ) (request : Request) (result : Result Answered Fault) (h h' : List Entry) : Type 0 where
  pub entries : List Entry
  pub added : h' ≡ h ++ entries
  pub own : List Entry
  pub are : AreOwn session tx request result own
  pub among : Amid (IsBesideRequest (WasInWay opens h (lock_of request)) tx (lock_of request)) own entries

-- The history ends with the answer, which stands here, and no write before it waits for its answer; its reply is that of
-- the ordered map of the contents before it, and a write was entered only where there was room.
pub record IsTold (opens : List Record → Type 0) (session tx : ℕ) (request : Request) (h : List Entry) (a : Answered) : Type 0 where
  pub before : List Entry
  pub own : List Entry
  pub is : h ≡ before ++ own
  pub tells : Tells session tx request a.reply own
  pub place : a.pos ≡ length h
  pub reply : (opening : List Record) → opens opening → IsReply (life_log opening before) request a.reply
  pub room : (opening : List Record) → opens opening → HadRoom opening before own
  pub fresh : (opening : List Record) → opens opening → untold before ≡ None

-- ---- commit

-- the Commit was entered and acknowledged, and the log is durable up to it
pub record IsDone (opens : List Record → Type 0) (session tx : ℕ) (answer : Committed) (h : List Entry) (now : PassSeen Entry) : Type 0 where
  pub own : List Entry
  pub made : Commits session tx own
  pub added : now.log ≡ h ++ own
  pub durable : made.0 ≤ now.durable
  pub place : answer.pos ≡ length now.log
  pub number : (opening : List Record) → opens opening → answer.number ≡ commits (life_log opening now.log)

-- nothing was entered, or, where nothing was known of an end, the Commit alone
abbrev pub MayBeDone : ℕ → Account → List Entry → List Entry → Type 0
MayBeDone tx account h h' = (h' ≡ h) ⊎ (IsOpen account × (lsn : ℕ) × (prev : ℕ) × (h' ≡ h ++ Rec lsn (commit_record tx prev) ∷ []))

abbrev pub IsCommitted : (List Record → Type 0) → ℕ → ℕ → Account → Result Committed Fault → List Entry → PassSeen Entry → Type 0
IsCommitted opens session tx account (Ok answer) h now = IsDone opens session tx answer h now
IsCommitted opens session tx account (Err faults.LogFault) h now = MayBeDone tx account h now.log
IsCommitted opens session tx account (Err (faults.Ended at)) h now = MayBeDone tx account h now.log
IsCommitted opens session tx account (Err fault) h now = now.log ≡ h

-- ---- abort

-- the transaction was undone and ended, and beside that stands upkeep
pub record IsAborted (opens : List Record → Type 0) (tx : ℕ) (pos : ℕ) (h h' : List Entry) : Type 0 where
  pub entries : List Entry
  pub added : h' ≡ h ++ entries
  pub own : List Entry
  pub aborts : Aborts (IsUntold opens) tx own
  pub among : Amid IsUpkeep own entries
  pub place : pos ≡ length h'

-- Undos of the transaction and upkeep, and its End where that may be.
abbrev pub IsOfAbort : Type 0 → ℕ → Entry → Type 0
IsOfAbort may_end tx e = TakesBack may_end tx e ⊎ IsUpkeep e

-- a part of that was added
pub record IsUndone (may_end : Type 0) (tx : ℕ) (h h' : List Entry) : Type 0 where
  pub entries : List Entry
  pub added : h' ≡ h ++ entries
  pub each : All (IsOfAbort may_end tx) entries

-- what is undone at a refusal may have an End only so
abbrev pub UndoesBy : Type 0 → (List Record → Type 0) → ℕ → Result ℕ Fault → List Entry → List Entry → Type 0
UndoesBy may_end opens tx (Ok pos) h h' = IsAborted opens tx pos h h'
UndoesBy may_end opens tx (Err fault) h h' = IsUndone may_end tx h h'

-- at a refusal the transaction has no End
abbrev pub EndsBy : (List Record → Type 0) → ℕ → Result ℕ Fault → List Entry → List Entry → Type 0
EndsBy = UndoesBy ⊥

-- ---- checkpoints, and losses of the data device

-- a record of this kind was added, with this LSN
abbrev pub HasMark : (A : Type 0) → (A → Record) → ℕ → List Entry → List Entry → Type 0
HasMark A mark lsn h h' = (a : A) × (h' ≡ h ++ Rec lsn (mark a) ∷ [])

-- That alone. Nothing for want of memory; where the log fails, such a record, and where the life has ended, maybe one.
abbrev pub IsMarked : (A : Type 0) → (A → Record) → Result ℕ Fault → List Entry → List Entry → Type 0
IsMarked A mark (Ok lsn) h h' = HasMark A mark lsn h h'
IsMarked A mark (Err faults.Memory) h h' = h' ≡ h
IsMarked A mark (Err faults.LogFault) h h' = (lsn : ℕ) × HasMark A mark lsn h h'
IsMarked A mark (Err fault) h h' = (h' ≡ h) ⊎ ((lsn : ℕ) × HasMark A mark lsn h h')

abbrev pub IsCheckpointed : Result ℕ Fault → List Entry → List Entry → Type 0
IsCheckpointed = IsMarked Checkpoint kinds.Checkpoint

abbrev pub IsLost : Result ℕ Fault → List Entry → List Entry → Type 0
IsLost = IsMarked Lost kinds.Lost
