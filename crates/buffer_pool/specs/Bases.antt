-- Images of the data device from which a page may be rebuilt.
use Rattle.std.specs.Prelude.{◌≡◌, ◌⊎◌, ℕ, ◌≤◌, List, Option, Some, None, Bool, false, ◌==◌, IsTrue}
use Rattle.std.specs.Option.{option_map_or}
use Rattle.media.specs.Images.{FailsVerification}
use Rattle.front.specs.Seen.{PassSeen}
use Rattle.wal_record.specs.Rules.{is_number}
use Rattle.wal_record.specs.State.{KeepsState}
use Rattle.wal_record.specs.declared.record.Record.{Record}
use Rattle.wal_record.specs.declared.entry.Entry.{Entry}
use Rattle.page_image.specs.Image.{image_bytes}
use Rattle.page_image.specs.declared.sealed.Sealed.{Sealed}
use Rattle.page_repair.specs.Images.{IsWritten}

-- the bytes are the page's image with these, not older than the one that was written last, and not younger than the head
pub record Serves (page written head : ℕ) (bytes : List ℕ) (x : Sealed) : Type 0 where
  pub keeps : KeepsState x.state
  pub number : IsTrue (is_number x.lsn)
  pub image : bytes ≡ image_bytes page x.lsn x.state
  pub since : written ≤ x.lsn
  pub before : x.lsn ≤ head

-- what the bytes say, exactly where they serve
abbrev pub IsBaseIn : ℕ → ℕ → ℕ → List ℕ → Option Sealed → Type 0
IsBaseIn page written head bytes (Some x) = Serves page written head bytes x
IsBaseIn page written head bytes None = (x : Sealed) → Serves page written head bytes x → ⊥

-- without bytes there is none
abbrev pub IsBaseAmong : ℕ → ℕ → ℕ → Option (List ℕ) → Option Sealed → Type 0
IsBaseAmong page written head (Some bytes) base = IsBaseIn page written head bytes base
IsBaseAmong page written head None base = base ≡ None

-- bytes that the data device gave
abbrev pub IsGiven : (List Record → Type 0) → PassSeen Entry → ℕ → List ℕ → Type 0
IsGiven opens seen page bytes = FailsVerification bytes ⊎ IsWritten opens seen page bytes

-- the data device has the page as it is at its head
abbrev pub is_current : ℕ → Option Sealed → Bool
is_current head base = option_map_or (λ (x : Sealed). x.lsn == head) base false
