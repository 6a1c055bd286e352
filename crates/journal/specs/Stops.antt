-- What a stop may leave of a life on its log disk.
use Rattle.std.specs.Prelude.{◌≡◌, ◌≤◌, ℕ, List, length, take, IfSome}
use Rattle.log_blocks.specs.LogState.{LogState, durable_lsn}
use Rattle.media.specs.Kept.{Kept}
use Rattle.stop_laws.specs.Stops.{HasAcknowledged, IsSafe, LeavesLife}
use Rattle.wal_record.specs.History.{life_log}
use Rattle.wal_record.specs.declared.entry.Entry.{Entry}
use Rattle.wal_record.specs.declared.record.Record.{Record}

-- whatever log the life began with, that log is durable, and each acknowledged commit
abbrev pub AreSafe : {D : Type 0} → (List Record → Type 0) → (D → Kept) → (D → Kept → Type 0) → List Entry → LogState D → Type 0
AreSafe opens told may_leave h log = (opening : List Record) → opens opening → IsSafe told may_leave opening h log

-- whatever log the life began with, the disk stands for a log that a stop may leave of the life, now and after a crash; it has
-- at least so many records
abbrev pub Leaves : {D : Type 0} → (List Record → Type 0) → (D → Kept) → (D → Kept → Type 0) → List Entry → ℕ → D → Type 0
Leaves opens told may_leave h least disk = (opening : List Record) → opens opening → LeavesLife told may_leave opening h least disk

-- a log that has ended names its durable LSN
abbrev pub EndsDurably : {D : Type 0} → LogState D → Type 0
EndsDurably log = IfSome log.ended (λ at. at ≡ durable_lsn log.places)

-- The life's log was durable up to this LSN: that is no record behind its last one, none of the opening log stands behind it,
-- and no Commit that was acknowledged.
pub record IsDurableUpto (opening : List Record) (h : List Entry) (at : ℕ) : Type 0 where
  pub begins : length opening ≤ at
  pub most : at ≤ length (life_log opening h)
  pub acknowledged : HasAcknowledged h (take at (life_log opening h))
