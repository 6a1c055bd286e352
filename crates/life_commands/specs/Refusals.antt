-- Why a command ends the run, by what the turns before it leave.
use Rattle.std.specs.Prelude.{◌≡◌, ◌≢◌, ◌⊎◌, ℕ, List, [], Some, false}
use Rattle.std.specs.List.{All}
use Rattle.media.specs.declared.disk.Disk.{Ghosts}
use Rattle.wal_record.specs.declared.record.Record.{Record}
use Rattle.wal_record.specs.declared.entry.Entry.{Entry}
use Rattle.script.specs.declared.command.Command.{Command}
use Rattle.script.specs.declared.command.Command.TheVariants as commands
use Rattle.life_commands.specs.declared.status.Status.{Status}
use Rattle.life_commands.specs.declared.status.Status.TheVariants as statuses
use Rattle.life_commands.specs.LogDisk.{Leaves}
use Rattle.life_commands.specs.Rows.{FitsAt, IsOfLife, is_lawful}
use Rattle.life_commands.specs.Turns.{Turn, Stage, Last, MayFind, Cut, Life, stage_step, lives, IsRightLife}
use Rattle.life_commands.specs.Turns.{turn}

abbrev pub IsOpen : Command → Type 0
IsOpen commands.Open = Unit {0}
IsOpen _ = ⊥

abbrev pub IsFormat : Command → Type 0
IsFormat (commands.Format limit) = Unit {0}
IsFormat _ = ⊥

-- a log that isn't empty may be found
pub record FindsLog (last : Last) : Type 0 where
  pub log : List Record
  pub found : MayFind last log
  pub some : log ≢ []

-- the life of this stage, if one is open, began with one of these logs and has this history
abbrev pub HasLife : Type 0 → (List Record → Type 0) → List Entry → Stage → Type 0
HasLife tells opens h s = (l : Life) → s.life ≡ Some l → (tells → opens l.opening) × (l.history ≡ h)

-- behind these turns the disk keeps a log that may be found, and the life is so
pub record LeftAs {D : Type 0} (L : Ghosts D) (kept : ℕ) (disk : D) (opens : List Record → Type 0) (h : List Entry) (s : Stage) : Type 0 where
  pub leaves : Leaves L kept disk s
  pub life : HasLife L.tells opens h s

-- A command that a status cut off: what it had entered; each life is right with it, and the disk keeps a log that may be found.
pub record CutAt {D : Type 0} (L : Ghosts D) (kept : ℕ) (disk : D) (opens : List Record → Type 0) (h : List Entry) (s : Stage) (c : Command) : Type 0 where
  pub entries : List Entry
  pub fits : FitsAt L.tells s (turn c entries Cut)
  pub right : L.tells → All IsRightLife (lives (stage_step s (turn c entries Cut)))
  pub left : LeftAs L kept disk opens h (stage_step s (turn c entries Cut))

-- a command of a life whose turn fits and leaves the life open, but whose lines want memory
pub record LacksLines {D : Type 0} (L : Ghosts D) (kept : ℕ) (disk : D) (opens : List Record → Type 0) (h : List Entry) (s : Stage) (c : Command) : Type 0 where
  pub here : Life
  pub life : s.life ≡ Some here
  pub kind : IsOfLife c
  pub turn : Turn
  pub is : turn.command ≡ c
  pub fits : FitsAt L.tells s turn
  pub there : Life
  pub stays : (stage_step s turn).life ≡ Some there
  pub right : L.tells → All IsRightLife (lives (stage_step s turn))
  pub left : LeftAs L kept disk opens h (stage_step s turn)

abbrev pub RefusesAt : {D : Type 0} → Ghosts D → ℕ → D → (List Record → Type 0) → List Entry → Stage → Command → ℕ → Status → Type 0
RefusesAt L kept disk opens h s c line statuses.Memory = LeftAs L kept disk opens h s ⊎ LacksLines L kept disk opens h s c
RefusesAt L kept disk opens h s c line (statuses.Script n) = (n ≡ line) × (is_lawful s c ≡ false) × LeftAs L kept disk opens h s
RefusesAt L kept disk opens h s c line statuses.LogFault = CutAt L kept disk opens h s c
RefusesAt L kept disk opens h s c line statuses.VaultFault = CutAt L kept disk opens h s c
RefusesAt L kept disk opens h s c line (statuses.BlockBad block byte) = CutAt L kept disk opens h s c × (L.tells → ⊥)
RefusesAt L kept disk opens h s c line (statuses.VaultBad object byte) = CutAt L kept disk opens h s c × (L.tells → ⊥)
RefusesAt L kept disk opens h s c line (statuses.LogBad block byte) = IsOpen c × (L.tells → ⊥)
RefusesAt L kept disk opens h s c line statuses.NotFormatted = IsOpen c × (L.tells → MayFind s.last []) × LeftAs L kept disk opens h s
RefusesAt L kept disk opens h s c line statuses.AlreadyFormatted = IsFormat c × (L.tells → FindsLog s.last) × LeftAs L kept disk opens h s
RefusesAt L kept disk opens h s c line _ = ⊥
