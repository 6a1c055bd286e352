-- What a supply of pages makes ready and rebuilds.
use Rattle.std.specs.Prelude.{◌≡◌, ℕ, ◌≤◌, List, length, take, Some, Bool, true, false, ◌==◌, IsTrue}
use Rattle.std.specs.List.{list_any}
use Rattle.wal_record.specs.State.{KeepsState}
use Rattle.wal_record.specs.Chains.{head, names_at}
use Rattle.wal_record.specs.Images.{image}
use Rattle.wal_record.specs.Upkeep.{segment_of, unrestored}
use Rattle.wal_record.specs.History.{life_log}
use Rattle.wal_record.specs.declared.page.PageState.{PageState}
use Rattle.wal_record.specs.declared.record.Record.{Record}
use Rattle.wal_record.specs.declared.record.Record.TheVariants as kinds
use Rattle.wal_record.specs.declared.entry.Entry.{Entry}
use Rattle.wal_record.specs.declared.entry.Entry.TheVariants.{Rec}
use Rattle.page_image.specs.Image.{image_bytes}
use Rattle.page_image.specs.declared.sealed.Sealed.{Sealed}
use Rattle.page_repair.specs.Chains.{IsImageAt}

-- these bytes are the page's sealed image in the log up to some LSN
pub record IsSealed (log : List Record) (page : ℕ) (bytes : List ℕ) : Type 0 where
  pub upto : ℕ
  pub within : upto ≤ length log
  pub state : PageState
  pub image : image (take upto log) page ≡ Some state
  pub sealed : bytes ≡ image_bytes page (head (take upto log) page) state

-- the page's segment needs no restore
abbrev pub IsReady : (List Record → Type 0) → List Entry → ℕ → Type 0
IsReady opens h page = (opening : List Record) → opens opening → list_any (λ s. s == segment_of page) (unrestored (life_log opening h)) ≡ false

abbrev pub is_restored : Entry → Bool
is_restored (Rec lsn (kinds.Restored r)) = true
is_restored _ = false

-- an image of the page to begin from, no younger than the head that is wanted
pub record IsBase (opens : List Record → Type 0) (h : List Entry) (page head : ℕ) (x : Sealed) : Type 0 where
  pub keeps : KeepsState x.state
  pub before : x.lsn ≤ head
  pub image : (opening : List Record) → opens opening → IsImageAt (life_log opening h) page x

-- the record of the log at this LSN names the page
abbrev pub IsHead : (List Record → Type 0) → List Entry → ℕ → ℕ → Type 0
IsHead opens h page lsn = (opening : List Record) → opens opening → IsTrue (names_at (life_log opening h) lsn page)

-- the page's logged image at this head
pub record IsRebuilt (opens : List Record → Type 0) (h : List Entry) (page head : ℕ) (x : Sealed) : Type 0 where
  pub keeps : KeepsState x.state
  pub lsn : x.lsn ≡ head
  pub image : (opening : List Record) → opens opening → IsImageAt (life_log opening h) page x
