-- What the state of a life says of the turns so far, and what a command adds.
use Rattle.std.specs.Prelude.{◌≡◌, ℕ, List, [], Option, Some, None, Bool, false}
use Rattle.std.specs.List.{All}
use Rattle.media.specs.declared.disk.Disk.{Ghosts}
use Rattle.media.specs.declared.pages.PageDevice as pages
use Rattle.media.specs.declared.vault.Vault as vaults
use Rattle.wal_record.specs.declared.record.Record.{Record}
use Rattle.page_ops.specs.Seeing.{Calls}
use Rattle.page_repair.specs.Images.{AreWritten}
use Rattle.named_objects.specs.Named.{AreNamed}
use Rattle.command_laws.specs.Names.{Active}
use Rattle.journal.specs.State.{calls_of}
use Rattle.journal.specs.Stops as stops
use Rattle.own_life.specs.State.{LifeState}
use Rattle.script.specs.declared.command.Command.{Command}
use Rattle.life_commands.specs.Bytes.{Known}
use Rattle.life_commands.specs.LogDisk.{Keeps, Leaves}
use Rattle.life_commands.specs.Text.{lines}
use Rattle.life_commands.specs.Rows.{FitsAt}
use Rattle.life_commands.specs.Turns.{Turn, Life, Stage, bytes_after, stage_step, IsRightLife, lives}

-- the log disk's fuse, by what a life tells of its calls, is armed only where the turns say so
pub record IsArmed (fuses : Type 0) (calls : Calls) (armed : Bool) : Type 0 where
  pub fuse : fuses
  pub renewed : armed ≡ false → calls.passes ≡ None

-- Within a life that may have begun with such logs: its history is what the turns have entered, and it is right.
pub record Within {D : Type 0} (L : Ghosts D) (opens : List Record → Type 0) (x : LifeState) (s : Stage) : Type 0 where
  pub past : L.tells → All IsRightLife s.past
  pub here : Life
  pub life : ◌≡◌ {A = Option Life} s.life (Some here)
  pub active : s.active ≡ x.active
  pub ended : s.ended ≡ x.ended
  pub goes : s.cut ≡ false
  pub fused : IsArmed L.fuses x.calls s.armed.log
  pub history : here.history ≡ x.history
  pub begins : L.tells → opens here.opening
  pub right : L.tells → IsRightLife here

-- The log disk that such a life hands out as it ends. What it keeps, also after a crash, stands for a log that a stop may leave,
-- with at least so many records.
pub record IsDiskOf {D : Type 0} (L : Ghosts D) (opens : List Record → Type 0) (x : LifeState) (kept : ℕ) (disk : D) : Type 0 where
  pub left : stops.Leaves opens L.told L.may_leave x.history kept disk
  pub calls : calls_of L.passes L.refused L.own disk ≡ x.calls

-- and the devices beside it: each image that the data device may give is sealed in the log up to one of these records, and each
-- object that the log names is synced in the vault
pub record AreBeside {E F : Type 0} (P : pages.Ghosts E) (V : vaults.Ghosts F) (opens : List Record → Type 0) (x : LifeState) (kept : ℕ) (beside : E × F) : Type 0 where
  pub images : P.tells → AreWritten opens P.told (record { log = x.history; durable = kept }) beside.0
  pub objects : V.tells → AreNamed opens V.told x.history beside.1

-- each life is right, the disk keeps a log that may be found, and what is known of it is so
pub record Safe {D : Type 0} (tells : Type 0) (L : Ghosts D) (kept : ℕ) (disk : D) (s : Stage) : Type 0 where
  pub right : L.tells → All IsRightLife (lives s)
  pub leaves : Leaves L kept disk s
  pub bytes : Known tells L (bytes_after s.life s.bytes) disk
  pub goes : s.cut ≡ false
  pub fuse : L.fuses

-- ---- where no life is open

-- the log disk's fuse is armed only where the turns say so
pub record IsFused {D : Type 0} (L : Ghosts D) (disk : D) (armed : Bool) : Type 0 where
  pub fuse : L.fuses
  pub renewed : armed ≡ false → L.passes disk ≡ None

-- where no life is open, with a disk of a type that tells so
pub record Out {D : Type 0} (tells : Type 0) (L : Ghosts D) (disk : D) (s : Stage) : Type 0 where
  pub past : L.tells → All IsRightLife s.past
  pub life : ◌≡◌ {A = Option Life} s.life None
  pub active : ◌≡◌ {A = List Active} s.active []
  pub ended : s.ended ≡ None
  pub goes : s.cut ≡ false
  pub fused : IsFused L disk s.armed.log
  pub keeps : L.tells → Keeps L s.last disk
  pub bytes : Known tells L s.bytes disk

-- ---- one turn more

-- one turn more, which no status cuts off; H says what holds after it
pub record Adds (tells : Type 0) (H : Stage → Type 0) (s : Stage) (c : Command) (out : List ℕ) : Type 0 where
  pub turn : Turn
  pub is : turn.command ≡ c
  pub fits : FitsAt tells s turn
  pub holds : H (stage_step s turn)
  pub lines : out ≡ lines s turn
