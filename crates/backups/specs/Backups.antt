-- What a backup enters.
use Rattle.std.specs.Prelude.{◌≡◌, ◌⊎◌, ℕ, ◌<◌, ◌≤◌, List, [], ◌∷◌, is_some, Bool, ◌==◌, IsTrue, Result, Ok, Err}
use Rattle.std.specs.List.{list_all}
use Rattle.store_model.specs.declared.fault.Fault.{Fault}
use Rattle.wal_record.specs.Chains.{head}
use Rattle.wal_record.specs.History.{life_log}
use Rattle.wal_record.specs.Images.{image}
use Rattle.wal_record.specs.Upkeep.{last_backup}
use Rattle.wal_record.specs.declared.record.PageLsn.{PageLsn}
use Rattle.wal_record.specs.declared.record.Record.{Record}
use Rattle.wal_record.specs.declared.record.Record.TheVariants as kinds
use Rattle.wal_record.specs.declared.entry.Entry.{Entry}
use Rattle.wal_record.specs.declared.entry.Entry.TheVariants.{Rec}
use Rattle.page_ops.specs.Gains.{Gains}
use Rattle.page_ops.specs.Groups.{Each}
use Rattle.page_ops.specs.Names.{LedgerName}
use Rattle.page_ops.specs.Seeing.{Known, is_upkeep}

-- a segment of this backup is done, or it is the upkeep of a page that was brought
abbrev pub is_of_backup : ℕ → Entry → Bool
is_of_backup backup (Rec lsn (kinds.BackupDone b)) = b.backup == backup
is_of_backup backup e = is_upkeep e

-- the page is told, at this LSN or a later one
abbrev pub IsTold : ℕ → ℕ → List PageLsn → Type 0
IsTold page least [] = ⊥
IsTold page least (x ∷ xs) = ((x.page ≡ page) × (least ≤ x.lsn)) ⊎ IsTold page least xs

-- the entry says that the backup has the page, no older than at this LSN
abbrev pub HasPage : ℕ → ℕ → ℕ → Entry → Type 0
HasPage backup page least (Rec lsn (kinds.BackupDone b)) = (b.backup ≡ backup) × IsTold page least b.pages
HasPage backup page least e = ⊥

-- where the entry says that a segment is backed up, the log is durable up to it
abbrev pub IsDurable : ℕ → Entry → Type 0
IsDurable durable (Rec lsn (kinds.BackupDone b)) = lsn ≤ durable
IsDurable durable e = Unit {0}

-- where the entry says that a segment is backed up, it is so by a backup above that number
abbrev pub IsAbove : ℕ → Entry → Type 0
IsAbove last (Rec lsn (kinds.BackupDone b)) = last < b.backup
IsAbove last e = Unit {0}

-- one of the entries is so
abbrev pub SomeOf : (Entry → Type 0) → List Entry → Type 0
SomeOf P [] = ⊥
SomeOf P (e ∷ es) = P e ⊎ SomeOf P es

-- The call has added these entries of its own, perhaps with others between. They are of this backup, and none is a session's.
pub record AddsTo (opens : List Record → Type 0) (entries sessions : LedgerName) (backup : ℕ) (own : List Entry) (old new : Known) : Type 0 where
  pub gains : Gains opens entries sessions own old new
  pub kinds : IsTrue (list_all (is_of_backup backup) own)
  pub sessions_counted : new.account.session_entries.amount ≡ old.account.session_entries.amount

-- It was a new backup. Each page that had an image as the call began is in it, no older than it was then, and the log is
-- durable up to each record that says so.
pub record BacksUp (opens : List Record → Type 0) (entries sessions : LedgerName) (backup : ℕ) (old new : Known) : Type 0 where
  pub own : List Entry
  pub adds : AddsTo opens entries sessions backup own old new
  pub above : (opening : List Record) → opens opening → last_backup (life_log opening old.log) < backup
  pub pages : (opening : List Record) (page : ℕ) → opens opening → IsTrue (is_some (image (life_log opening old.log) page)) → SomeOf (HasPage backup page (head (life_log opening old.log) page)) own
  pub durable : (opening : List Record) → opens opening → Each (IsDurable new.durable) own

-- Some segments of a backup may be done. Each entry that says so names a new backup.
pub record BeginsToBackUp (opens : List Record → Type 0) (entries sessions : LedgerName) (old new : Known) : Type 0 where
  pub backup : ℕ
  pub own : List Entry
  pub adds : AddsTo opens entries sessions backup own old new
  pub above : (opening : List Record) → opens opening → Each (IsAbove (last_backup (life_log opening old.log))) own

abbrev pub BacksUpOr : (List Record → Type 0) → LedgerName → LedgerName → Result ℕ Fault → Known → Known → Type 0
BacksUpOr opens entries sessions (Ok backup) old new = BacksUp opens entries sessions backup old new
BacksUpOr opens entries sessions (Err fault) old new = BeginsToBackUp opens entries sessions old new
