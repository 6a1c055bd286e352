-- What a stop leaves has the first of the committed transactions, and nothing else.
use Rattle.std.specs.Prelude.{◌≡◌, ℕ, List, ◌++◌, take, Some, true, ◌==◌}
use Rattle.std.specs.List.{list_any}
use Rattle.std.specs.Option.{option_map}
use Rattle.wal_record.specs.Contents.{committed_contents}
use Rattle.wal_record.specs.Checkpoints.{commits}
use Rattle.wal_record.specs.Sound.{AreLawful}
use Rattle.wal_record.specs.Steps.{Finished, committed_transactions}
use Rattle.wal_record.specs.Serial.{Serial, Result, serial}
use Rattle.wal_record.specs.Legal.{IsLegal}
use Rattle.wal_record.specs.Left.{acknowledges, IsLeft, Life, AreLives, last_log, kept_of}
use Rattle.wal_record.specs.declared.record.Record.{Record}
use Rattle.wal_record.specs.declared.entry.Entry.{Entry}

pub record LeftLaw (opening : List Record) (h : List Entry) (own : List Record) : Type 0 where
  -- it folds to the map after the first committed transactions, as many as it holds commits
  pub relation : AreLawful opening → IsLegal opening h → IsLeft opening h own → Serial (committed_contents opening) (take (commits own) (committed_transactions h)) (committed_contents (opening ++ own))
  -- which is the map that the serial run of these leaves
  pub result : AreLawful opening → IsLegal opening h → IsLeft opening h own
      → option_map (λ (r : Result). r.contents) (serial (committed_contents opening) (take (commits own) (committed_transactions h))) ≡ Some (committed_contents (opening ++ own))
  -- and every acknowledged one is among them
  pub acknowledged : AreLawful opening → IsLegal opening h → IsLeft opening h own → (t : ℕ) → list_any (acknowledges t) h ≡ true
      → list_any (λ (f : Finished). f.tx == t) (take (commits own) (committed_transactions h)) ≡ true

-- over any number of lives, each of which opens what the stop before it left, the committed
-- transactions that the stops left, one after the other, make the committed contents of the last log
pub record LivesLaw (opening : List Record) (ls : List Life) : Type 0 where
  pub serial : AreLawful opening → AreLives opening ls → Serial (committed_contents opening) (kept_of ls) (committed_contents (last_log opening ls))
