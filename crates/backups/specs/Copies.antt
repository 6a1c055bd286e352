-- Copies of a segment's pages, as a backup draws them one by one.
use Rattle.std.specs.Prelude.{◌≡◌, ℕ, ◌+◌, ◌-◌, ◌*◌, ◌<◌, ◌≤◌, min, List, [], ◌∷◌, ◌++◌, length, map, Some, IsTrue}
use mathlib.Core.List.{IsPrefix}
use Rattle.wal_record.specs.Chains.{head}
use Rattle.wal_record.specs.History.{life_log}
use Rattle.wal_record.specs.Images.{image}
use Rattle.wal_record.specs.Rules.{is_number, is_page}
use Rattle.wal_record.specs.State.{KeepsState}
use Rattle.wal_record.specs.declared.record.PageLsn.{PageLsn}
use Rattle.wal_record.specs.declared.record.Record.{Record}
use Rattle.wal_record.specs.declared.entry.Entry.{Entry}
use Rattle.page_ops.specs.Desks.{IsMade}
use Rattle.page_ops.specs.Groups.{Each}
use Rattle.backup_set.specs.Backup.{AreCopies, IsAmong, copy_bytes}
use Rattle.backup_set.specs.Reading.{last_page}
use Rattle.backup_set.specs.declared.copy.PageCopy.{PageCopy}

-- of each page what the log is to tell, and its image
pub record Drawn : Type 0 where
  pub told : List PageLsn
  pub images : List (List ℕ)

abbrev pub nothing_drawn : Drawn
nothing_drawn = record { told = []; images = [] }

abbrev pub told_of : PageCopy → PageLsn
told_of c = record { page = c.page; lsn = c.sealed.lsn }

abbrev pub drawn_of : List PageCopy → Drawn
drawn_of copies = record { told = map told_of copies; images = map copy_bytes copies }

-- after this history the copy is the page's image at its head
pub record IsCurrent (opens : List Record → Type 0) (h : List Entry) (c : PageCopy) : Type 0 where
  pub lsn : (opening : List Record) → opens opening → c.sealed.lsn ≡ head (life_log opening h) c.page
  pub image : (opening : List Record) → opens opening → image (life_log opening h) c.page ≡ Some c.sealed.state

-- the copies have this page more, as it is after this history
pub record HasOneMore (opens : List Record → Type 0) (h : List Entry) (page : ℕ) (old new : Drawn) : Type 0 where
  pub copy : PageCopy
  pub is : copy.page ≡ page
  pub number : IsTrue (is_page page)
  pub place : IsTrue (is_number copy.sealed.lsn)
  pub keeps : KeepsState copy.sealed.state
  pub more : new ≡ record { told = old.told ++ told_of copy ∷ []; images = old.images ++ copy_bytes copy ∷ [] }
  pub current : IsCurrent opens h copy

-- so it was at some moment from the first history to the second
pub record WasCurrent (opens : List Record → Type 0) (first second : List Entry) (c : PageCopy) : Type 0 where
  pub moment : List Entry
  pub begins : IsPrefix first moment
  pub goes_on : IsPrefix moment second
  pub current : IsCurrent opens moment c

-- the pages up to this one are made
abbrev pub AreMade : (List Record → Type 0) → List Entry → ℕ → Type 0
AreMade opens h most = (page : ℕ) → 1 ≤ page → page ≤ most → IsMade opens h page

-- how many pages of the segment there are among so many
abbrev pub pages_in : ℕ → ℕ → ℕ
pages_in segment most = min 16 (most - 16 * segment)

-- a copy of the segment's first so many pages, each as it was at some moment from the first history to the second
pub record AreDrawn (opens : List Record → Type 0) (first second : List Entry) (segment count : ℕ) (x : Drawn) : Type 0 where
  pub copies : List PageCopy
  pub drawn : x ≡ drawn_of copies
  pub long : length copies ≡ count
  pub fit : AreCopies segment 0 copies
  pub upto : last_page 0 copies ≤ 16 * segment + count
  pub each : (page : ℕ) → 16 * segment < page → page ≤ 16 * segment + count → (c : PageCopy) × IsAmong c copies × (c.page ≡ page)
  pub current : Each (WasCurrent opens first second) copies
