-- A backup on its way, segment by segment.
use Rattle.std.specs.Prelude.{◌≡◌, ℕ, suc, ◌<◌, ◌≤◌, List, ◌||◌, ◌==◌, false, IsTrue, Result, Ok, Err}
use Rattle.std.specs.List.{list_any}
use mathlib.Core.List.{IsPrefix}
use Rattle.store_model.specs.declared.fault.Fault.{Fault}
use Rattle.wal_record.specs.Books.{maintenance_book}
use Rattle.wal_record.specs.Chains.{head}
use Rattle.wal_record.specs.History.{life_log}
use Rattle.wal_record.specs.Upkeep.{backs_up, last_backup}
use Rattle.wal_record.specs.declared.record.Record.{Record}
use Rattle.wal_record.specs.declared.entry.Entry.{Entry}
use Rattle.page_ops.specs.Groups.{Each}
use Rattle.page_ops.specs.Names.{LedgerName}
use Rattle.page_ops.specs.Seeing.{Known}
use Rattle.backups.specs.Backups.{AddsTo, HasPage, IsDurable, SomeOf}

-- from this segment on, each may come next in this backup
pub record GoesOn (log : List Record) (backup segment : ℕ) : Type 0 where
  pub number : IsTrue ((backup == last_backup log) || (backup == suc (last_backup log)))
  pub fresh : (s : ℕ) → segment ≤ s → list_any (backs_up backup s) log ≡ false

-- so it was at some moment up to this history, not before the record of this LSN named an object
pub record MayGoOn (opens : List Record → Type 0) (since backup segment : ℕ) (h : List Entry) : Type 0 where
  pub moment : List Entry
  pub begins : IsPrefix moment h
  pub low : (opening : List Record) → opens opening → since ≤ maintenance_book moment
  pub goes_on : (opening : List Record) → opens opening → GoesOn (life_log opening moment) backup segment

-- the pages above the first of these numbers, up to the second, are in the backup, none older than after the first history
pub record HasBackedUp (opens : List Record → Type 0) (entries sessions : LedgerName) (first : List Entry) (backup from upto : ℕ) (old new : Known) : Type 0 where
  pub own : List Entry
  pub adds : AddsTo opens entries sessions backup own old new
  pub pages : (opening : List Record) (page : ℕ) → opens opening → from < page → page ≤ upto → SomeOf (HasPage backup page (head (life_log opening first) page)) own
  pub durable : (opening : List Record) → opens opening → Each (IsDurable new.durable) own

-- where it is refused, no more is said than what was entered
abbrev pub HasBackedUpOr : {T : Type 0} → (List Record → Type 0) → LedgerName → LedgerName → ℕ → ℕ → ℕ → Result T Fault → Known → Known → Type 0
HasBackedUpOr opens entries sessions backup from upto (Ok x) old new = HasBackedUp opens entries sessions old.log backup from upto old new
HasBackedUpOr opens entries sessions backup from upto (Err fault) old new = (own : List Entry) × AddsTo opens entries sessions backup own old new
