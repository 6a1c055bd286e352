-- What the disk of a log keeps, and what a stop may leave of a life.
use Rattle.std.specs.Prelude.{◌≡◌, ◌≤◌, ℕ, List, ◌++◌, length, take, None, is_some, true}
use Rattle.std.specs.List.{list_any}
use Rattle.log_blocks.specs.LogState.{LogState, durable_lsn}
use Rattle.log_manager.specs.Devices.{IsEnough, StandsForLog}
use Rattle.log_manager.specs.Groups.{HoldGroups, records_of}
use Rattle.log_manager.specs.Managed.{first_kept}
use Rattle.media.specs.Kept.{Kept}
use Rattle.wal_record.specs.History.{life_log}
use Rattle.wal_record.specs.Left.{IsLeft, acknowledges, is_commit_of}
use Rattle.wal_record.specs.Sound.{HasRoom}
use Rattle.wal_record.specs.declared.entry.Entry.{Entry}
use Rattle.wal_record.specs.declared.record.Record.{Record}

-- ---- the disk of a log

-- The kept bytes stand for the first of these records, at least so many, behind which the store has its room.
pub record StandsForFirst (rs : List Record) (least : ℕ) (k : Kept) : Type 0 where
  pub front : List Record
  pub lost : List Record
  pub is : rs ≡ front ++ lost
  pub no_fewer : least ≤ length front
  pub room : HasRoom front
  pub stands : StandsForLog front k

-- What the disk gives now, and whatever it gives after a crash that comes now, stands for the first of these records.
pub record KeepsFirst {D : Type 0} (told : D → Kept) (may_leave : D → Kept → Type 0) (rs : List Record) (least : ℕ) (disk : D) : Type 0 where
  pub now : StandsForFirst rs least (told disk)
  pub crash : (k : Kept) → may_leave disk k → StandsForFirst rs least k

-- These are the records of the log. The stable ones are enough for an opening; those that wait are groups, each whole in one
-- block, and behind each group the store has its room.
pub record WaitsInGroups {D : Type 0} (log : LogState D) (rs : List Record) : Type 0 where
  pub stable : List Record
  pub groups : List (List Record)
  pub is : rs ≡ stable ++ records_of groups
  pub durable : length stable ≡ durable_lsn log.places
  pub held : HoldGroups log.pending groups
  pub room : (n : ℕ) → HasRoom (stable ++ records_of (take n groups))
  pub enough : IsEnough stable (first_kept log)

-- What a call of the disk makes of a log that goes on. What was durable still is. It goes on with the same records; or it has
-- ended, and the disk keeps at least the durable ones.
pub record GoesOnOrEnds {D : Type 0} (told : D → Kept) (may_leave : D → Kept → Type 0) (rs : List Record) (old new : LogState D) : Type 0 where
  pub rises : durable_lsn old.places ≤ durable_lsn new.places
  pub runs : new.ended ≡ None → WaitsInGroups new rs
  pub ends : is_some new.ended ≡ true → KeepsFirst told may_leave rs (durable_lsn new.places) new.device

-- ---- a life on it

-- each acknowledged commit stands among these records
abbrev pub HasAcknowledged : List Entry → List Record → Type 0
HasAcknowledged h rs = (t : ℕ) → list_any (acknowledges t) h ≡ true → list_any (is_commit_of t) rs ≡ true

-- The durable records of the life's log have the opening log and each acknowledged commit. Once the log has ended the disk keeps
-- at least these.
pub record IsSafe {D : Type 0} (told : D → Kept) (may_leave : D → Kept → Type 0) (opening : List Record) (h : List Entry) (log : LogState D) : Type 0 where
  pub begins : length opening ≤ durable_lsn log.places
  pub within : durable_lsn log.places ≤ length (life_log opening h)
  pub acknowledged : HasAcknowledged h (take (durable_lsn log.places) (life_log opening h))
  pub runs : log.ended ≡ None → WaitsInGroups log (life_log opening h)
  pub ends : is_some log.ended ≡ true → KeepsFirst told may_leave (life_log opening h) (durable_lsn log.places) log.device

-- ---- a stop

-- The kept bytes stand for a log that a stop may leave of the life, with at least so many records.
pub record StandsForLeft (opening : List Record) (h : List Entry) (least : ℕ) (k : Kept) : Type 0 where
  pub own : List Record
  pub left : IsLeft opening h own
  pub no_fewer : least ≤ length (opening ++ own)
  pub stands : StandsForLog (opening ++ own) k

-- So does what the disk gives now, and whatever a crash leaves that comes now.
pub record LeavesLife {D : Type 0} (told : D → Kept) (may_leave : D → Kept → Type 0) (opening : List Record) (h : List Entry) (least : ℕ) (disk : D) : Type 0 where
  pub now : StandsForLeft opening h least (told disk)
  pub crash : (k : Kept) → may_leave disk k → StandsForLeft opening h least k
