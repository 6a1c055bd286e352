-- What the data device may give, by a log.
use Rattle.std.specs.Prelude.{ℕ, List}
use Rattle.page_repair.specs.Supplies.{IsSealed}
use Rattle.wal_record.specs.declared.record.Record.{Record}

-- each image that the device may give is its page's sealed image in this log
abbrev pub AreSealed : (ℕ → List ℕ → Type 0) → List Record → Type 0
AreSealed told log = (page : ℕ) (bytes : List ℕ) → told page bytes → IsSealed log page bytes
