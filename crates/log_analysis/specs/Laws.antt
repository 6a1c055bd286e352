-- What taken blocks make of a listing together.
use Rattle.std.specs.Prelude.{ℕ, ◌+◌, ◌<◌, ◌≤◌, ◌^◌, List, [], ◌++◌, length}
use Rattle.wal_record.specs.Sound.{AreLawful}
use Rattle.wal_record.specs.declared.record.Record.{Record}
use Rattle.log_index.specs.declared.listing.Listing.{Listing}
use Rattle.log_analysis.specs.Taken.{GoesOnWith, ListsMore}

-- records, and then others behind them
pub record NextLaw (checkpoint first : ℕ) (own more : List Record) (old now new : Listing) : Type 0 where
  pub both : ListsMore checkpoint first own old now → ListsMore checkpoint (first + length own) more now new → ListsMore checkpoint first (own ++ more) old new

-- a lawful log that ends in these records, whose LSNs fit
pub record WholeLaw (checkpoint : ℕ) (before own : List Record) (old new : Listing) : Type 0 where
  -- the Checkpoint is one of them
  pub from_checkpoint : AreLawful (before ++ own) → length (before ++ own) < 2 ^ 63 → length before < checkpoint → checkpoint ≤ length (before ++ own)
      → ListsMore checkpoint (length before + 1) own old new → GoesOnWith (before ++ own) new
  -- there is none, and they are all
  pub from_start : AreLawful own → length own < 2 ^ 63 → GoesOnWith [] old → ListsMore 0 1 own old new → GoesOnWith own new
