-- What one call leaves, as the next one finds it.
use Rattle.std.specs.Prelude.{◌≡◌, ℕ, List, Some, true}
use Rattle.std.specs.List.{list_any}
use Rattle.media.specs.declared.disk.Disk.{Ghosts}
use Rattle.wal_record.specs.Left.{acknowledges, is_commit_of}
use Rattle.wal_record.specs.declared.record.Record.{Record}
use Rattle.life_commands.specs.Stores.{AreOf, Stores}
use Rattle.life_commands.specs.LogDisk.{Keeps, StandsOn}
use Rattle.life_commands.specs.Turns.{Unsynced, Life, Stage, MayFind, MayBeLeft, last_after}

-- each commit that the life has acknowledged stands in the log
abbrev pub HasAcknowledged : Life → List Record → Type 0
HasAcknowledged l log = (t : ℕ) → list_any (acknowledges t) l.history ≡ true → list_any (is_commit_of t) log ≡ true

-- Behind these turns the disk holds a log that may be found. It may be handed on so: it holds that log, and a stop leaves
-- it or one that may be left behind the turns. Each of them has what the open life has acknowledged, and what is
-- beside the log disk is of each.
pub record HandsOn {D S : Type 0} (L : Ghosts D) (B : Stores S) (s : Stage) (disk : D) (beside : S) : Type 0 where
  pub kept : ℕ
  pub log : List Record
  pub found : MayFind (last_after s.life s.last kept) log
  pub stands : StandsOn log (L.told disk)
  pub keeps : Keeps L (Unsynced log (last_after s.life s.last kept)) disk
  pub stores : AreOf (B.are_of beside) (Unsynced log (last_after s.life s.last kept))
  pub acknowledged : (l : Life) → s.life ≡ Some l → (next : List Record) → MayBeLeft (Unsynced log (last_after s.life s.last kept)) next → HasAcknowledged l next
