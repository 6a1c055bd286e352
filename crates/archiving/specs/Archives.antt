-- What an archive enters, and why it is refused.
use Rattle.std.specs.Prelude.{◌≡◌, ◌⊎◌, ℕ, suc, ◌+◌, ◌<◌, ◌≤◌, Bool, true, false, List, [], ◌∷◌, length, Result, Ok, Err}
use mathlib.Core.List.{IsPrefix}
use Rattle.media.specs.Cause.{Rose}
use Rattle.store_model.specs.declared.fault.Fault.{Fault}
use Rattle.store_model.specs.declared.fault.Fault.TheVariants as faults
use Rattle.wal_record.specs.History.{life_log}
use Rattle.wal_record.specs.Upkeep.{archived, standing_runs}
use Rattle.wal_record.specs.declared.record.Record.{Record}
use Rattle.wal_record.specs.declared.record.Record.TheVariants as kinds
use Rattle.wal_record.specs.declared.entry.Entry.{Entry}
use Rattle.wal_record.specs.declared.entry.Entry.TheVariants.{Rec}
use Rattle.log_archive.specs.Items.{numbered, part}
use Rattle.log_archive.specs.Run.{items_size}
use Rattle.log_archive.specs.declared.layout.TheConstants.{RUN_BYTES}
use Rattle.page_ops.specs.Causes.{EndsBy, FailsToRead, MeetsNoEnd}
use Rattle.page_ops.specs.Gains.{Gains}
use Rattle.page_ops.specs.Groups.{Each}
use Rattle.page_ops.specs.Names.{LedgerName}
use Rattle.page_ops.specs.Seeing.{Account, Known}

-- ---- runs

-- The entries say that runs are done, the first of which begins at this LSN, and each other one behind the one before it. The
-- LSN behind all of them is `behind`.
abbrev pub Follow : ℕ → List Entry → ℕ → Type 0
Follow next [] behind = next ≡ behind
Follow next (Rec lsn (kinds.RunDone d) ∷ es) behind = (d.first ≡ next) × (d.first ≤ d.last) × Follow (suc d.last) es behind
Follow next (e ∷ es) behind = ⊥

-- how many bytes the items of a run of these LSNs have
abbrev pub run_size : List Record → ℕ → ℕ → ℕ
run_size log first last = items_size (numbered first (part first (last + 1) log))

-- Of the runs of records from this LSN on, up to another one, it is the longest whose items have at most 16 MiB.
pub record IsLongest (log : List Record) (first last upto : ℕ) : Type 0 where
  pub within : last ≤ upto
  pub fits : run_size log first last ≤ RUN_BYTES
  pub next : last < upto → RUN_BYTES < run_size log first (last + 1)

-- where the entry says that a run is done, that one is so
abbrev pub HasLongest : List Record → ℕ → Entry → Type 0
HasLongest log upto (Rec lsn (kinds.RunDone d)) = IsLongest log d.first d.last upto
HasLongest log upto e = Unit {0}

-- where the entry says that a run is done, the log is durable up to it
abbrev pub IsDurable : ℕ → Entry → Type 0
IsDurable durable (Rec lsn (kinds.RunDone d)) = lsn ≤ durable
IsDurable durable e = Unit {0}

-- behind this log so many runs stand, and this is the first LSN that none of them has
pub record Stands (log : List Record) (stood next : ℕ) : Type 0 where
  pub count : stood ≡ length (standing_runs log)
  pub first : next ≡ suc (archived (standing_runs log))

-- Of a log that is durable up to this LSN fewer than 1,000 records wait for a run, or as many runs stand as may.
abbrev pub FewWait : ℕ → List Record → Type 0
FewWait durable log = (durable < archived (standing_runs log) + 1000) ⊎ (1024 ≤ length (standing_runs log))

-- ---- what is entered

-- nothing, though others may have entered something
pub record AddsNone (opens : List Record → Type 0) (entries sessions : LedgerName) (old new : Known) : Type 0 where
  pub gains : Gains opens entries sessions [] old new
  pub sessions_counted : new.account.session_entries.amount ≡ old.account.session_entries.amount

-- The call has added these entries of its own, perhaps with others between: runs from this LSN on, each the longest of the
-- records up to another one.
pub record AddsRuns (opens : List Record → Type 0) (entries sessions : LedgerName) (next upto behind : ℕ) (own : List Entry) (old new : Known) : Type 0 where
  pub gains : Gains opens entries sessions own old new
  pub sessions_counted : new.account.session_entries.amount ≡ old.account.session_entries.amount
  pub follow : Follow next own behind
  pub longest : (opening : List Record) → opens opening → Each (HasLongest (life_log opening new.log) upto) own

-- Runs were made behind those that stood at some moment of the call, not more than may stand. The records are up to an LSN up
-- to which the log was durable.
pub record MakesRuns (opens : List Record → Type 0) (entries sessions : LedgerName) (stood next upto behind : ℕ) (own : List Entry) (old new : Known) : Type 0 where
  pub adds : AddsRuns opens entries sessions next upto behind own old new
  pub moment : List Entry
  pub since : IsPrefix old.log moment
  pub goes_on : IsPrefix moment new.log
  pub stands : (opening : List Record) → opens opening → Stands (life_log opening moment) stood next
  pub durable : upto ≤ new.durable
  pub few : (opening : List Record) → opens opening → stood + length own ≤ 1024

-- So many runs were made, of all that stood as the call began, and the log is durable up to each record that says so. No record
-- waits then, or as many runs stand as may.
pub record Archives (opens : List Record → Type 0) (entries sessions : LedgerName) (count : ℕ) (old new : Known) : Type 0 where
  pub stood : ℕ
  pub next : ℕ
  pub upto : ℕ
  pub behind : ℕ
  pub own : List Entry
  pub makes : MakesRuns opens entries sessions stood next upto behind own old new
  pub whole : (opening : List Record) → opens opening → length (life_log opening old.log) ≤ upto
  pub counted : count ≡ length own
  pub named : (opening : List Record) → opens opening → Each (IsDurable new.durable) own
  pub done : (upto < behind) ⊎ (1024 ≤ stood + count)

-- some runs may be made, of all that stood as the call began
pub record BeginsToMake (opens : List Record → Type 0) (entries sessions : LedgerName) (old new : Known) : Type 0 where
  pub stood : ℕ
  pub next : ℕ
  pub upto : ℕ
  pub behind : ℕ
  pub own : List Entry
  pub makes : MakesRuns opens entries sessions stood next upto behind own old new
  pub whole : (opening : List Record) → opens opening → length (life_log opening old.log) ≤ upto

abbrev pub ArchivesOr : (List Record → Type 0) → LedgerName → LedgerName → Result ℕ Fault → Known → Known → Type 0
ArchivesOr opens entries sessions (Ok count) old new = Archives opens entries sessions count old new
ArchivesOr opens entries sessions (Err fault) old new = AddsNone opens entries sessions old new ⊎ BeginsToMake opens entries sessions old new

-- ---- one run, where it is due

-- One was made where 1,000 records waited at least, up to an LSN up to which the log was durable by then; and the log is durable
-- up to the record that says so.
pub record MakesNext (opens : List Record → Type 0) (entries sessions : LedgerName) (old new : Known) : Type 0 where
  pub stood : ℕ
  pub next : ℕ
  pub upto : ℕ
  pub behind : ℕ
  pub own : List Entry
  pub makes : MakesRuns opens entries sessions stood next upto behind own old new
  pub one : length own ≡ 1
  pub many : next + 1000 ≤ suc upto
  pub later : old.durable ≤ upto
  pub named : (opening : List Record) → opens opening → Each (IsDurable new.durable) own

-- none was made, since few records wait
pub record MakesNone (opens : List Record → Type 0) (entries sessions : LedgerName) (old new : Known) : Type 0 where
  pub adds : AddsNone opens entries sessions old new
  pub few : (opening : List Record) → opens opening → FewWait new.durable (life_log opening new.log)

-- one may be made
pub record BeginsNext (opens : List Record → Type 0) (entries sessions : LedgerName) (old new : Known) : Type 0 where
  pub stood : ℕ
  pub next : ℕ
  pub upto : ℕ
  pub behind : ℕ
  pub own : List Entry
  pub makes : MakesRuns opens entries sessions stood next upto behind own old new
  pub one : length own ≤ 1

abbrev pub ArchivesNextOr : (List Record → Type 0) → LedgerName → LedgerName → Result Bool Fault → Known → Known → Type 0
ArchivesNextOr opens entries sessions (Ok true) old new = MakesNext opens entries sessions old new
ArchivesNextOr opens entries sessions (Ok false) old new = MakesNone opens entries sessions old new
ArchivesNextOr opens entries sessions (Err fault) old new = AddsNone opens entries sessions old new ⊎ BeginsNext opens entries sessions old new

-- ---- why it is refused

-- as a read of the log is; or the vault failed at one of the call's own calls, which was counted
abbrev pub FailsToArchive : (List Record → Type 0) → LedgerName → LedgerName → ℕ → ℕ → Account → Account → List Entry → Fault → Type 0
FailsToArchive opens log_faults made vault vault_now old new h faults.VaultFault = MeetsNoEnd old new × Rose vault vault_now
FailsToArchive opens log_faults made vault vault_now old new h fault = FailsToRead opens fault × EndsBy opens log_faults made old new h fault
