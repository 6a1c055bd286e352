-- The last backup of a page.
use Rattle.std.specs.Prelude.{◌≡◌, ◌⊎◌, ◌<◌, ℕ, List}
use mathlib.Core.List.{IsPrefix}
use Rattle.wal_record.specs.History.{life_log}
use Rattle.wal_record.specs.Upkeep.{page_backup}
use Rattle.wal_record.specs.declared.record.Record.{Record}
use Rattle.wal_record.specs.declared.entry.Entry.{Entry}
use Rattle.page_image.specs.declared.sealed.Sealed.{Sealed}
use Rattle.page_repair.specs.Chains.{IsBackup}

-- no backup has the page, or the last one that does has a younger image of it than this head
abbrev pub HasNone : List Record → ℕ → ℕ → Type 0
HasNone log p head = ((page_backup log p).backup ≡ 0) ⊎ (head < (page_backup log p).lsn)

-- at some moment from the first history to the second, the last backup of the page had this image
pub record WasLast (opens : List Record → Type 0) (first second : List Entry) (p : ℕ) (x : Sealed) : Type 0 where
  pub moment : List Entry
  pub begins : IsPrefix first moment
  pub goes_on : IsPrefix moment second
  pub is : (opening : List Record) → opens opening → IsBackup (life_log opening moment) p x
