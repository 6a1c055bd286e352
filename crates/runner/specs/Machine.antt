-- What the state of a run says of the turns so far, and what a command adds.
use Rattle.std.specs.Prelude.{◌≡◌, ◌<◌, ◌≤◌, ℕ, List, [], Some, None, false}
use Rattle.std.specs.List.{All}
use Rattle.media.specs.declared.disk.Disk.{Ghosts}
use Rattle.wal_record.specs.declared.record.Record.{Record}
use Rattle.command_laws.specs.Names.{Active}
use Rattle.script.specs.declared.command.Command.{Command}
use Rattle.store_log.specs.Beginnings.{Beginning, BeginsOn}
use Rattle.runner.specs.declared.at.At.{At}
use Rattle.runner.specs.declared.at.At.TheVariants.{Outside, Inside}
use Rattle.runner.specs.declared.at.Stepped.{Stepped}
use Rattle.runner.specs.declared.at.Stepped.TheVariants as steps
use Rattle.life_commands.specs.declared.status.Status.{Status}
use Rattle.life_commands.specs.declared.status.Status.TheVariants as statuses
use Rattle.life_commands.specs.Bytes.{Known}
use Rattle.life_commands.specs.Refusals.{RefusesAt}
use Rattle.life_commands.specs.Living.{Adds, IsFused, Out}
use Rattle.life_commands.specs.Stores.{Stores}
use Rattle.life_commands.specs.Turns.{Stage, bytes_after, IsRightLife}

-- ---- in a life

-- a life may begin with this log, and the devices beside its disk tell what they hold, which is of it
pub record OpensOn {D S : Type 0} (tells : Type 0) (L : Ghosts D) (B : Stores S) (b : Beginning D) (beside : S) (opening : List Record) : Type 0 where
  pub begins : BeginsOn tells L b opening
  pub told : B.tells
  pub stores : B.are_of beside opening

-- within a life that has just begun on this log
pub record Begun {D : Type 0} (tells : Type 0) (L : Ghosts D) (b : Beginning D) (s : Stage) : Type 0 where
  pub past : L.tells → All IsRightLife s.past
  pub opening : List Record
  pub life : s.life ≡ Some (record { opening = opening; history = [] })
  pub active : ◌≡◌ {A = List Active} s.active []
  pub ended : s.ended ≡ None
  pub goes : s.cut ≡ false
  pub fused : IsFused L b.log.log.device s.armed.log
  pub begins : L.tells → BeginsOn tells L b opening

-- what the place of a run says; of a life by this word
abbrev pub IsAt : {D F : Type 0} → Type 0 → Ghosts D → (F → Stage → Type 0) → At D F → Stage → Type 0
IsAt tells L inside (Outside disk) s = Out tells L disk s
IsAt tells L inside (Inside life) s = inside life s

-- no log is one with which a life has begun, where none is open
abbrev pub no_opening : List Record → Type 0
no_opening opening = ⊥

abbrev pub Steps : {D F : Type 0} → Type 0 → Ghosts D → (F → Stage → Type 0) → Stage → Command → ℕ → Stepped D F → Type 0
Steps tells L inside s c line (steps.Goes out at) = Adds L.tells (IsAt tells L inside at) s c out.items
Steps tells L inside s c line (steps.Ends status disk) = RefusesAt L 0 disk no_opening [] s c line status × Known tells L (bytes_after s.life s.bytes) disk

-- A log isn't made or opened, for this status: where it is a fault, a line says so if the disk's fuse refused a call, of
-- which there had been so many before.
abbrev pub Refuses : {D F : Type 0} → Ghosts D → D → Status → ℕ → List ℕ → Stepped D F → Type 0
Refuses L disk status before failed (steps.Goes out at) = (status ≡ statuses.LogFault) × (out.items ≡ failed) × (at ≡ Outside disk) × (before < L.refused disk)
Refuses L disk status before failed (steps.Ends ending left) = (ending ≡ status) × (left ≡ disk) × (status ≡ statuses.LogFault → L.refused disk ≤ before)
