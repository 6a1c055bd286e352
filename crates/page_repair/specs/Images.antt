-- The images of pages on the data device, by what a pass has seen of the history and knows to be durable.
use Rattle.std.specs.Prelude.{◌≡◌, ◌≢◌, ◌⊎◌, ◌==◌, ℕ, ◌≤◌, List, Option, true}
use Rattle.std.specs.List.{list_any}
use mathlib.Core.List.{IsPrefix}
use Rattle.front.specs.Seen.{PassSeen}
use Rattle.wal_record.specs.History.{life_log}
use Rattle.wal_record.specs.Upkeep.{segment_of, unrestored}
use Rattle.wal_record.specs.declared.record.Record.{Record}
use Rattle.wal_record.specs.declared.entry.Entry.{Entry}
use Rattle.page_repair.specs.Supplies.{IsSealed}

-- the bytes are the page's sealed image in the log up to an LSN to which the pass knows the log to be durable
pub record IsImage (log : List Record) (durable page : ℕ) (bytes : List ℕ) : Type 0 where
  pub sealed : IsSealed log page bytes
  pub durable_upto : sealed.upto ≤ durable

abbrev pub IsWritten : (List Record → Type 0) → PassSeen Entry → ℕ → List ℕ → Type 0
IsWritten opens p page bytes = (opening : List Record) → opens opening → IsImage (life_log opening p.log) p.durable page bytes

-- each image that a device tells of is so
abbrev pub AreWritten : {D : Type 0} → (List Record → Type 0) → (D → ℕ → List ℕ → Type 0) → PassSeen Entry → D → Type 0
AreWritten {D} opens told p device = (page : ℕ) (bytes : List ℕ) → told device page bytes → IsWritten opens p page bytes

-- the image of each page that was written last is the same
abbrev pub SameNewest : {I : Type 0} → (I → ℕ → Option (List ℕ)) → I → I → Type 0
SameNewest {I} newest old new = (page : ℕ) → newest new page ≡ newest old page

-- so it is of all pages but one
abbrev pub SameOthers : {I : Type 0} → (I → ℕ → Option (List ℕ)) → ℕ → I → I → Type 0
SameOthers {I} newest page old new = (p : ℕ) → p ≢ page → newest new p ≡ newest old p

-- so it is of all pages of other segments
abbrev pub SameOutside : {I : Type 0} → (I → ℕ → Option (List ℕ)) → ℕ → I → I → Type 0
SameOutside {I} newest page old new = (p : ℕ) → segment_of p ≢ segment_of page → newest new p ≡ newest old p

-- at a moment between these two histories the page's segment was unrestored
pub record FindsUnrestored (opens : List Record → Type 0) (page : ℕ) (before now : List Entry) : Type 0 where
  pub moment : List Entry
  pub begins : IsPrefix before moment
  pub goes_on : IsPrefix moment now
  pub is : (opening : List Record) → opens opening → list_any (λ s. s == segment_of page) (unrestored (life_log opening moment)) ≡ true

-- what was written last of each page is the same; or the page's segment was found unrestored, and so it is of the other segments
abbrev pub Spares : {I : Type 0} → (List Record → Type 0) → ℕ → List Entry → List Entry → (I → ℕ → Option (List ℕ)) → I → I → Type 0
Spares {I} opens page before now newest old new = SameNewest newest old new ⊎ (FindsUnrestored opens page before now × SameOutside newest page old new)
