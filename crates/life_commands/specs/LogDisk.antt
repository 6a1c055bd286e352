-- What the log disk keeps, by the logs that it may hold.
use Rattle.std.specs.Prelude.{ℕ, List, [], ◌∷◌}
use Rattle.media.specs.Kept.{Kept}
use Rattle.media.specs.declared.disk.Disk.{Ghosts}
use Rattle.log_blocks.specs.declared.header.Place.{Place}
use Rattle.log_blocks.specs.Log.{Block, StandsFor}
use Rattle.log_manager.specs.Devices.{HoldEnd}
use Rattle.wal_record.specs.Sound.{IsSound}
use Rattle.wal_record.specs.declared.record.Record.{Record}
use Rattle.life_commands.specs.Turns.{Stage, Last, MayFind, MayBeLeft, last_after}

-- whether what the disk keeps is looked at, which disks of some types tell, or the form of a run alone
pub data View (T : Type 0) : Type 0 where
  Whole : T → View T
  Form : View T

abbrev pub IsWhole : {T : Type 0} → View T → Type 0
IsWhole (Whole t) = Unit {0}
IsWhole Form = ⊥

-- disks as they tell in this view
abbrev pub seen : {D : Type 0} (L : Ghosts D) → View L.tells → Ghosts D
seen L v = record L { tells = IsWhole v }

-- the kept bytes stand for a sound log
pub record StandsOn (log : List Record) (k : Kept) : Type 0 where
  pub sound : IsSound log
  pub bs : List Block
  pub stands : StandsFor bs k
  pub records : HoldEnd log bs

-- the kept bytes stand for a log that has P
abbrev pub HoldsOne : (List Record → Type 0) → Kept → Type 0
HoldsOne P k = (log : List Record) × P log × StandsOn log k

-- behind this use the disk gives a log that may be found, and a crash leaves one that may be left
pub record KeepsLast {D : Type 0} (told : D → Kept) (may_leave : D → Kept → Type 0) (last : Last) (disk : D) : Type 0 where
  pub now : HoldsOne (MayFind last) (told disk)
  pub crash : (c : Kept) → may_leave disk c → HoldsOne (MayBeLeft last) c

abbrev pub Keeps : {D : Type 0} → Ghosts D → Last → D → Type 0
Keeps L last disk = KeepsLast L.told L.may_leave last disk

-- behind these turns the disk keeps a log that may be found: of an open life a member of what a stop may leave, where so many
-- of its records are durable
abbrev pub Leaves : {D : Type 0} → Ghosts D → ℕ → D → Stage → Type 0
Leaves L kept disk s = L.tells → Keeps L (last_after s.life s.last kept) disk

-- the LSN of the first record of these blocks, 1 where there is none
abbrev pub lsn_from : List Place → ℕ
lsn_from [] = 1
lsn_from (p ∷ ps) = p.first
