-- Why a run ends: which statuses a part of the run may give, and that a device's fault has its cause.
use Rattle.std.specs.Prelude.{◌≡◌, ◌≢◌, ◌≤◌, ◌⊎◌, ℕ}
use Rattle.media.specs.Cause.{Rose}
use Rattle.media.specs.declared.disk.Disk.{Ghosts}
use Rattle.page_ops.specs.Seeing.{Calls}
use Rattle.runner.specs.declared.at.At.{At}
use Rattle.runner.specs.declared.at.At.TheVariants.{Outside, Inside}
use Rattle.runner.specs.declared.at.Stepped.{Stepped}
use Rattle.runner.specs.declared.at.Stepped.TheVariants as steps
use Rattle.runner.specs.declared.turns.Turned.{Turned}
use Rattle.runner.specs.declared.turns.Turned.TheVariants as turns
use Rattle.runner.specs.declared.turns.Passed.{Passed}
use Rattle.runner.specs.declared.turns.Passed.TheVariants as passes
use Rattle.runner.specs.declared.living.Lived.{Lived}
use Rattle.runner.specs.declared.living.Lived.TheVariants as ways
use Rattle.store_log.specs.Shows.{Shows}
use Rattle.life_commands.specs.declared.status.Status.{Status}
use Rattle.life_commands.specs.declared.status.Status.TheVariants as statuses

-- a fault of the log disk comes only where that disk's own count rose, and no stream's fault comes, and nothing that the words decide
abbrev pub LogCause : ℕ → ℕ → Status → Type 0
LogCause before now statuses.LogFault = Rose before now
LogCause before now statuses.SourceFault = ⊥
LogCause before now statuses.SinkFault = ⊥
LogCause before now statuses.Usage = ⊥
LogCause before now statuses.NoGenerator = ⊥
LogCause before now statuses.Done = ⊥
LogCause before now _ = Unit {0}

-- the same of the next line: no fault of the log disk or of the sink
abbrev pub LineCause : ℕ → ℕ → Status → Type 0
LineCause before now statuses.SourceFault = Rose before now
LineCause before now statuses.Memory = Unit {0}
LineCause before now (statuses.Script line) = Unit {0}
LineCause before now (statuses.NotBuilt line) = Unit {0}
LineCause before now _ = ⊥

-- a status with which a line of a life may end the run
abbrev pub IsOfALife : Status → Type 0
IsOfALife statuses.Usage = ⊥
IsOfALife statuses.NoGenerator = ⊥
IsOfALife statuses.AlreadyFormatted = ⊥
IsOfALife statuses.NotFormatted = ⊥
IsOfALife (statuses.LogBad block byte) = ⊥
IsOfALife _ = Unit {0}

-- of a whole run: each fault of a device comes only where its own count rose
pub record RunCause (source0 source1 sink0 sink1 log0 log1 : ℕ) (status : Status) : Type 0 where
  pub source : status ≡ statuses.SourceFault → Rose source0 source1
  pub sink : status ≡ statuses.SinkFault → Rose sink0 sink1
  pub log : status ≡ statuses.LogFault → Rose log0 log1

-- the log disk of a place
abbrev pub disk_at : {D F : Type 0} → (F → D) → At D F → D
disk_at device (Outside disk) = disk
disk_at device (Inside life) = device life

-- the disk's own count doesn't fall, and each status has its cause
abbrev pub SteppedCause : {D F : Type 0} → Ghosts D → (F → D) → D → Stepped D F → Type 0
SteppedCause L device disk (steps.Goes out at) = L.own disk ≤ L.own (disk_at device at)
SteppedCause L device disk (steps.Ends status left) = (L.own disk ≤ L.own left) × LogCause (L.own disk) (L.own left) status × Shows L left status

abbrev pub TurnedCause : {D F : Type 0} → Ghosts D → (F → D) → D → ℕ → ℕ → ℕ → ℕ → Turned D F → Type 0
TurnedCause L device disk source0 source1 sink0 sink1 (turns.Goes at) = L.own disk ≤ L.own (disk_at device at)
TurnedCause L device disk source0 source1 sink0 sink1 (turns.Ends status left) = (L.own disk ≤ L.own left) × RunCause source0 source1 sink0 sink1 (L.own disk) (L.own left) status
    × Shows L left status × (status ≢ statuses.Usage) × (status ≢ statuses.NoGenerator)

-- The same of a line within a life, by what is known of its log disk's calls. A life shows nothing of a disk that isn't told.
abbrev pub PassedCause : Calls → Calls → ℕ → ℕ → ℕ → ℕ → Passed → Type 0
PassedCause old new source0 source1 sink0 sink1 (passes.Ends status) = (old.own ≤ new.own) × RunCause source0 source1 sink0 sink1 old.own new.own status × IsOfALife status
PassedCause old new source0 source1 sink0 sink1 _ = old.own ≤ new.own

-- of a life, before which the log disk had failed by itself so often
abbrev pub LivedCause : {D E F : Type 0} → Ghosts D → ℕ → ℕ → ℕ → ℕ → ℕ → Lived D E F → Type 0
LivedCause L before source0 source1 sink0 sink1 (ways.Over left device vault) = before ≤ L.own left
LivedCause L before source0 source1 sink0 sink1 (ways.Ends status left device vault) = (before ≤ L.own left) × RunCause source0 source1 sink0 sink1 before (L.own left) status
    × Shows L left status × (status ≢ statuses.Usage) × (status ≢ statuses.NoGenerator)

-- a fault of the vault is told where its count, which was so much before and is so much now, has risen or stands at its end; else
-- want of memory is
abbrev pub IsBlamed : ℕ → ℕ → Status → Status → Type 0
IsBlamed before now statuses.VaultFault told = ((told ≡ statuses.VaultFault) × Rose before now) ⊎ (told ≡ statuses.Memory)
IsBlamed before now status told = told ≡ status

-- a status that the script asks for, where no device fails; or want of memory
abbrev pub IsAsked : Status → Type 0
IsAsked statuses.Usage = ⊥
IsAsked statuses.NoGenerator = ⊥
IsAsked statuses.SourceFault = ⊥
IsAsked statuses.SinkFault = ⊥
IsAsked statuses.LogFault = ⊥
IsAsked statuses.VaultFault = ⊥
IsAsked (statuses.LogBad block byte) = ⊥
IsAsked (statuses.BlockBad block byte) = ⊥
IsAsked (statuses.VaultBad object byte) = ⊥
IsAsked _ = Unit {0}
