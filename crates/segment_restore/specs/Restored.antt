-- A segment that is restored.
use Rattle.std.specs.Prelude.{◌≡◌, ◌⊎◌, ℕ, ◌+◌, ◌-◌, ◌^◌, ◌≤◌, List, [], ◌∷◌, length, min, Contains, Option, Some, None, IfSome, true, false}
use mathlib.Core.List.{IsPrefix}
use Rattle.claim_laws.specs.Upkeep.{is_unrestored}
use Rattle.wal_record.specs.Chains.{head}
use Rattle.wal_record.specs.History.{life_log}
use Rattle.wal_record.specs.Images.{image}
use Rattle.wal_record.specs.Upkeep.{segment_of}
use Rattle.wal_record.specs.declared.record.Record.{Record}
use Rattle.wal_record.specs.declared.record.Record.TheVariants as kinds
use Rattle.wal_record.specs.declared.entry.Entry.{Entry}
use Rattle.page_image.specs.Image.{image_bytes}
use Rattle.page_image.specs.declared.sealed.Sealed.{Sealed}
use Rattle.page_ops.specs.declared.group.Group.{Group}
use Rattle.page_repair.specs.Supplies.{IsRebuilt}

-- after some beginning of this history the segment was unrestored
abbrev pub WasUnrestored : List Record → List Entry → ℕ → Type 0
WasUnrestored opening h segment = (before : List Entry) × IsPrefix before h × (is_unrestored (life_log opening before) segment ≡ true)

-- it needs no restore
abbrev pub IsRestored : List Record → List Entry → ℕ → Type 0
IsRestored opening h segment = is_unrestored (life_log opening h) segment ≡ false

abbrev pub restored_group : ℕ → Group
restored_group segment = record { recs = kinds.Restored (record { segment = segment }) ∷ []; said = None; room = false; lsn = 0 }

-- ---- images on the data device

-- the page's logged image at this head
abbrev pub IsHeadImage : (List Record → Type 0) → List Entry → ℕ → ℕ → Option (List ℕ) → Type 0
IsHeadImage opens h page lsn written = (x : Sealed) × IsRebuilt opens h page lsn x × (written ≡ Some (image_bytes page lsn x.state))

-- what was written last is the page's sealed image in the log, if it has one
abbrev pub IsImageOf : List Record → ℕ → Option (List ℕ) → Type 0
IsImageOf log page written = IfSome (image log page) (λ state. written ≡ Some (image_bytes page (head log page) state))

-- so it is as the log was at some moment from the first history to the second
pub record IsBack (opens : List Record → Type 0) (first second : List Entry) (page : ℕ) (written : Option (List ℕ)) : Type 0 where
  pub moment : List Entry
  pub begins : IsPrefix first moment
  pub goes_on : IsPrefix moment second
  pub image : (opening : List Record) → opens opening → IsImageOf (life_log opening moment) page written

-- a page of the segment, no later than the last one that was lost
pub record IsLost (segment lost page : ℕ) : Type 0 where
  pub positive : 1 ≤ page
  pub inside : segment_of page ≡ segment
  pub upto : page ≤ lost

-- what was written last of each page that isn't one of these is as before
abbrev pub SpareOthers : {I : Type 0} → (ℕ → Type 0) → (I → ℕ → Option (List ℕ)) → I → I → Type 0
SpareOthers {I} which newest old new = (page : ℕ) → (which page → ⊥) → newest new page ≡ newest old page

-- so many device calls more have failed, as far as the count goes
abbrev pub RoseBy : ℕ → ℕ → ℕ → Type 0
RoseBy n before now = min (before + n) (2 ^ 64 - 1) ≤ now

-- Each of these pages is back on the device but for some, and for each of those a call of the device failed. So a fault
-- excuses one page alone.
pub record AreBack (opens : List Record → Type 0) (first second : List Entry) (which : ℕ → Type 0) (newest : ℕ → Option (List ℕ)) (before now : ℕ) : Type 0 where
  pub missing : List ℕ
  pub failed : RoseBy (length missing) before now
  pub back : (page : ℕ) → which page → IsBack opens first second page (newest page) ⊎ Contains missing page
