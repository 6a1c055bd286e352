-- When devices stand for a log.
use Rattle.std.specs.Prelude.{◌≡◌, ◌≤◌, ℕ, suc, max, List, ◌++◌, length}
use Rattle.std.specs.List.{All}
use Rattle.media.specs.Crash.{Only}
use Rattle.media.specs.Kept.{Kept}
use Rattle.log_blocks.specs.Log.{Block, StandsFor, first_lsn}
use Rattle.log_manager.specs.Records.{AreRecordsOf}
use Rattle.wal_record.specs.OpenWrites.{open_list}
use Rattle.wal_record.specs.Sound.{IsSound}
use Rattle.wal_record.specs.Upkeep.{archived, standing_runs}
use Rattle.wal_record.specs.declared.record.OpenWrite.{OpenWrite}
use Rattle.wal_record.specs.declared.record.Record.{Record}
use Rattle.wal_record.specs.Checkpoints.{last_checkpoint}

-- ---- the log disk

-- The records from this LSN on are enough for an opening: they begin no later than the last Checkpoint, and with the
-- first record where there is none; than the oldest open write of each loser; and than the first LSN that no run covers.
pub record IsEnough (log : List Record) (first : ℕ) : Type 0 where
  pub checkpoint : first ≤ max 1 (last_checkpoint log)
  pub losers : (t : ℕ) → All (λ (w : OpenWrite). first ≤ w.lsn) (open_list log t)
  pub runs : first ≤ suc (archived (standing_runs log))

-- The blocks hold the records of the log from an LSN on; those before were dropped. So each header names the last
-- Checkpoint of the log up to the end of its block.
pub record HoldEnd (log : List Record) (bs : List Block) : Type 0 where
  pub dropped : List Record
  pub kept : List Record
  pub is : log ≡ dropped ++ kept
  pub records : AreRecordsOf (last_checkpoint dropped) bs kept
  pub first : first_lsn bs ≡ suc (length dropped)
  pub enough : IsEnough log (first_lsn bs)

-- the kept bytes stand for the log
pub record StandsForLog (log : List Record) (k : Kept) : Type 0 where
  pub bs : List Block
  pub stands : StandsFor bs k
  pub records : HoldEnd log bs

-- the disk keeps such blocks, whatever crash comes now; without an open block it keeps the empty log
pub record KeepsLog {D : Type 0} (told : D → Kept) (may_leave : D → Kept → Type 0) (disk : D) (log : List Record) : Type 0 where
  pub bs : List Block
  pub stands : StandsFor bs (told disk)
  pub only : Only (told disk) (may_leave disk)
  pub records : HoldEnd log bs

-- ---- all devices

-- The devices stand for the log. What is asked of each stands in a field of its own: images on the data device, backups
-- and archive runs in the vault join with the work that makes them.
pub record DevicesStandFor {D : Type 0} (told : D → Kept) (may_leave : D → Kept → Type 0) (disk : D) (log : List Record) : Type 0 where
  pub sound : IsSound log
  pub log_disk : KeepsLog told may_leave disk log
