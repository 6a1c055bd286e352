-- An archive on its way, run by run.
use Rattle.std.specs.Prelude.{◌≡◌, ◌⊎◌, ℕ, suc, ◌+◌, ◌<◌, ◌≤◌, List, length, Result, Ok, Err}
use mathlib.Core.List.{IsPrefix}
use Rattle.store_model.specs.declared.fault.Fault.{Fault}
use Rattle.wal_record.specs.Books.{maintenance_book}
use Rattle.wal_record.specs.History.{life_log}
use Rattle.wal_record.specs.Upkeep.{archived, last_run, standing_runs}
use Rattle.wal_record.specs.declared.record.Record.{Record}
use Rattle.wal_record.specs.declared.entry.Entry.{Entry}
use Rattle.page_ops.specs.Groups.{Each}
use Rattle.page_ops.specs.Names.{LedgerName}
use Rattle.page_ops.specs.Seeing.{Known}
use Rattle.archiving.specs.Archives.{AddsRuns, IsDurable}
use Rattle.archiving.specs.declared.waiting.Waiting.{Waiting}

-- the log of a life, as it is behind this history
abbrev pub IsLifeLog : (List Record → Type 0) → List Entry → List Record → Type 0
IsLifeLog opens h log = (opening : List Record) × opens opening × (log ≡ life_log opening h)

-- the next run behind this log has this number and begins at this LSN, and so many stand
pub record ComesNext (log : List Record) (w : Waiting) : Type 0 where
  pub run : w.run ≡ suc (last_run log)
  pub first : w.first ≡ suc (archived (standing_runs log))
  pub stood : w.stood ≡ length (standing_runs log)

-- so it was at some moment up to this history, not before the record of this LSN named an object
pub record MayGoOn (opens : List Record → Type 0) (since : ℕ) (w : Waiting) (h : List Entry) : Type 0 where
  pub moment : List Entry
  pub begins : IsPrefix moment h
  pub low : (opening : List Record) → opens opening → since ≤ maintenance_book moment
  pub goes_on : (opening : List Record) → opens opening → ComesNext (life_log opening moment) w

-- these runs were made, from what waited at first to what waits now
pub record HasMade (opens : List Record → Type 0) (entries sessions : LedgerName) (first now : Waiting) (old new : Known) : Type 0 where
  pub own : List Entry
  pub adds : AddsRuns opens entries sessions first.first first.upto now.first own old new
  pub named : (opening : List Record) → opens opening → Each (IsDurable new.durable) own
  pub upto : now.upto ≡ first.upto
  pub stood : now.stood ≡ first.stood + length own

-- where the next one is refused, nothing was entered, or its record, which isn't durable
pub record MayHaveNext (opens : List Record → Type 0) (entries sessions : LedgerName) (first : Waiting) (old new : Known) : Type 0 where
  pub own : List Entry
  pub behind : ℕ
  pub adds : AddsRuns opens entries sessions first.first first.upto behind own old new
  pub one : length own ≤ 1

-- where it is refused, some were made, or one more whose record isn't durable
pub record MayHaveMade (opens : List Record → Type 0) (entries sessions : LedgerName) (first : Waiting) (old new : Known) : Type 0 where
  pub own : List Entry
  pub behind : ℕ
  pub adds : AddsRuns opens entries sessions first.first first.upto behind own old new
  pub few : first.stood ≤ 1024 → first.stood + length own ≤ 1024

abbrev pub HasMadeOr : {T : Type 0} → (List Record → Type 0) → LedgerName → LedgerName → Result T Fault → Waiting → Waiting → Known → Known → Type 0
HasMadeOr opens entries sessions (Ok x) first now old new = HasMade opens entries sessions first now old new
HasMadeOr opens entries sessions (Err fault) first now old new = MayHaveNext opens entries sessions first old new

-- all that waited, or as many as may stand; so many
pub record MadeAll (opens : List Record → Type 0) (entries sessions : LedgerName) (count : ℕ) (first : Waiting) (old new : Known) : Type 0 where
  pub now : Waiting
  pub made : HasMade opens entries sessions first now old new
  pub counted : now.stood ≡ first.stood + count
  pub few : first.stood ≤ 1024 → now.stood ≤ 1024
  pub done : (now.upto < now.first) ⊎ (1024 ≤ now.stood)

abbrev pub MadeAllOr : (List Record → Type 0) → LedgerName → LedgerName → Result ℕ Fault → Waiting → Known → Known → Type 0
MadeAllOr opens entries sessions (Ok count) first old new = MadeAll opens entries sessions count first old new
MadeAllOr opens entries sessions (Err fault) first old new = MayHaveMade opens entries sessions first old new
