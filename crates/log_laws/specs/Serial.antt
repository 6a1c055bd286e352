-- The serial law: a legal history is one of a one-thread ordered map.
use Rattle.std.specs.Prelude.{◌≡◌, List, Some}
use Rattle.wal_record.specs.Contents.{committed_contents}
use Rattle.wal_record.specs.Sound.{AreLawful}
use Rattle.wal_record.specs.History.{life_log}
use Rattle.wal_record.specs.Steps.{committed_transactions}
use Rattle.wal_record.specs.Serial.{Serial, serial, all_said}
use Rattle.wal_record.specs.Legal.{IsLegal}
use Rattle.wal_record.specs.declared.record.Record.{Record}
use Rattle.wal_record.specs.declared.entry.Entry.{Entry}

pub record SerialLaw (opening : List Record) (h : List Entry) : Type 0 where
  -- the log of the life is lawful
  pub sound : AreLawful opening → IsLegal opening h → AreLawful (life_log opening h)
  -- the committed transactions, one after the other from the committed contents of the opening log,
  -- have the replies that were said, and leave the committed contents of the log of the life
  pub relation : AreLawful opening → IsLegal opening h → Serial (committed_contents opening) (committed_transactions h) (committed_contents (life_log opening h))
  -- so does the serial run
  pub result : AreLawful opening → IsLegal opening h → serial (committed_contents opening) (committed_transactions h) ≡ Some (record { replies = all_said (committed_transactions h); contents = committed_contents (life_log opening h) })
