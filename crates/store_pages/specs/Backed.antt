-- What a backup and an archive add to a life's history.
use Rattle.std.specs.Prelude.{◌≡◌, ◌⊎◌, ◌<◌, ◌≤◌, ◌+◌, ℕ, suc, List, ◌++◌, length, is_some, Bool, true, false, IsTrue, Result, Ok, Err}
use Rattle.std.specs.List.{All}
use mathlib.Core.List.{IsPrefix}
use Rattle.store_model.specs.declared.fault.Fault.{Fault}
use Rattle.wal_record.specs.Chains.{head}
use Rattle.wal_record.specs.History.{life_log}
use Rattle.wal_record.specs.Images.{image}
use Rattle.wal_record.specs.Upkeep.{last_backup}
use Rattle.wal_record.specs.declared.record.Record.{Record}
use Rattle.wal_record.specs.declared.record.Record.TheVariants as kinds
use Rattle.wal_record.specs.declared.entry.Entry.{Entry}
use Rattle.wal_record.specs.declared.entry.Entry.TheVariants.{Rec}
use Rattle.page_ops.specs.Groups.{Each}
use Rattle.command_laws.specs.Commands.{IsUpkeep}
use Rattle.backups.specs.Backups.{HasPage, IsDurable, SomeOf}
use Rattle.archiving.specs.Archives as archives

-- ---- a backup

-- that a segment is in this backup, or the upkeep of a page that was brought
abbrev pub IsOfBackup : ℕ → Entry → Type 0
IsOfBackup backup (Rec lsn (kinds.BackupDone b)) = b.backup ≡ backup
IsOfBackup backup e = IsUpkeep e

-- such entries were added
pub record AddsBackup (backup : ℕ) (h h' : List Entry) : Type 0 where
  pub own : List Entry
  pub each : All (IsOfBackup backup) own
  pub added : h' ≡ h ++ own

-- the backup is a new one, and has each page that had an image, no older than it was then
pub record IsWhole (backup : ℕ) (opening : List Record) (h own : List Entry) : Type 0 where
  pub above : last_backup (life_log opening h) < backup
  pub pages : (page : ℕ) → IsTrue (is_some (image (life_log opening h) page)) → SomeOf (HasPage backup page (head (life_log opening h) page)) own

-- a whole backup was made, and the log is durable up to each record that says so; or a part of one
abbrev pub BacksUp : (List Record → Type 0) → Result ℕ Fault → List Entry → List Entry → ℕ → Type 0
BacksUp opens (Ok backup) h h' durable = (a : AddsBackup backup h h') × ((opening : List Record) → opens opening → IsWhole backup opening h a.own × Each (IsDurable durable) a.own)
BacksUp opens (Err fault) h h' durable = (backup : ℕ) × AddsBackup backup h h'

-- ---- archive runs

-- that a run is done
abbrev pub IsRunEntry : Entry → Type 0
IsRunEntry (Rec lsn (kinds.RunDone d)) = Unit {0}
IsRunEntry e = ⊥

-- such entries were added
pub record AddsRuns (h h' : List Entry) : Type 0 where
  pub own : List Entry
  pub each : All IsRunEntry own
  pub added : h' ≡ h ++ own

-- The runs follow those that stood at some moment of the call. No record that stood as it began waits then, or as many runs stand
-- as may.
pub record IsArchived (opening : List Record) (h h' own : List Entry) : Type 0 where
  pub stood : ℕ
  pub next : ℕ
  pub upto : ℕ
  pub behind : ℕ
  pub moment : List Entry
  pub since : IsPrefix h moment
  pub goes_on : IsPrefix moment h'
  pub stands : archives.Stands (life_log opening moment) stood next
  pub follow : archives.Follow next own behind
  pub whole : length (life_log opening h) ≤ upto
  pub done : (upto < behind) ⊎ (1024 ≤ stood + length own)

-- so many runs were made, of all that waited, and the log is durable up to each record that says so; or some were
abbrev pub Archives : (List Record → Type 0) → Result ℕ Fault → List Entry → List Entry → ℕ → Type 0
Archives opens (Ok count) h h' durable = (a : AddsRuns h h') × (count ≡ length a.own) × ((opening : List Record) → opens opening → IsArchived opening h h' a.own × Each (archives.IsDurable durable) a.own)
Archives opens (Err fault) h h' durable = AddsRuns h h'

-- ---- one run, where it is due

-- so many runs at most were made
abbrev pub MakesUpto : ℕ → List Entry → List Entry → Type 0
MakesUpto most h h' = (es : List Entry) × All IsRunEntry es × (length es ≤ most) × (h' ≡ h ++ es)

-- It follows the runs that stood at some moment of the call, and is of the records up to an LSN up to which the log is durable,
-- of which 1,000 waited at least. The log is durable up to the record that says so, too.
pub record IsNextRun (opening : List Record) (h h' own : List Entry) (durable : ℕ) : Type 0 where
  pub stood : ℕ
  pub next : ℕ
  pub upto : ℕ
  pub behind : ℕ
  pub moment : List Entry
  pub since : IsPrefix h moment
  pub goes_on : IsPrefix moment h'
  pub stands : archives.Stands (life_log opening moment) stood next
  pub follow : archives.Follow next own behind
  pub many : next + 1000 ≤ suc upto
  pub within : upto ≤ durable
  pub named : Each (archives.IsDurable durable) own

-- Up to some LSN between these two the log was durable at a look, and of the records up to it few wait, in each log with which
-- the life may have begun.
abbrev pub AreArchived : (List Record → Type 0) → ℕ → ℕ → List Entry → Type 0
AreArchived opens before now h = (durable : ℕ) × (before ≤ durable) × (durable ≤ now) × ((opening : List Record) → opens opening → archives.FewWait durable (life_log opening h))

-- one run was made, or few records wait; or one run at most was made
abbrev pub ArchivesNext : (List Record → Type 0) → Result Bool Fault → List Entry → List Entry → ℕ → ℕ → Type 0
ArchivesNext opens (Ok true) h h' before now = (a : AddsRuns h h') × (length a.own ≡ 1) × ((opening : List Record) → opens opening → IsNextRun opening h h' a.own now)
ArchivesNext opens (Ok false) h h' before now = (h' ≡ h) × AreArchived opens before now h'
ArchivesNext opens (Err fault) h h' before now = MakesUpto 1 h h'
