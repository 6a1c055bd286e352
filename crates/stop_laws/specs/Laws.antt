-- What is enough of a log for an opening.
use Rattle.std.specs.Prelude.{◌≤◌, ℕ, List, ◌++◌}
use Rattle.log_manager.specs.Devices.{IsEnough}
use Rattle.wal_record.specs.Checkpoints.{recycle_point}
use Rattle.wal_record.specs.Sound.{AreLawful}
use Rattle.wal_record.specs.declared.record.Record.{Record}

pub record EnoughLaw (log : List Record) (first : ℕ) : Type 0 where
  -- the records from an LSN on that are enough of a log are enough of each log that goes on from there
  pub more : (rest : List Record) → AreLawful (log ++ rest) → IsEnough log first → IsEnough (log ++ rest) first
  -- the records that nothing forgets before the recycle point are enough
  pub point : AreLawful log → first ≤ recycle_point log → IsEnough log first
