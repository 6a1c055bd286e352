-- The devices of a store that is opened.
use Rattle.std.specs.Prelude.{ℕ, List, length}
use Rattle.page_repair.specs.Images.{IsImage}
use Rattle.wal_record.specs.declared.record.Record.{Record}

-- Whatever log the life begins with, each image of the data device is the page's sealed image in it. A blank device has none.
abbrev pub AreEarlier : {P : Type 0} → (List Record → Type 0) → (P → ℕ → List ℕ → Type 0) → P → Type 0
AreEarlier {P} opens told device = (opening : List Record) → opens opening → (page : ℕ) (bytes : List ℕ) → told device page bytes → IsImage opening (length opening) page bytes
