-- Why a command of a life may end the run.
use Rattle.std.specs.Prelude.{ℕ}
use Rattle.media.specs.Cause.{Rose}
use Rattle.life_commands.specs.declared.status.Status.{Status}
use Rattle.life_commands.specs.declared.status.Status.TheVariants as statuses

-- A fault of the log disk only where that disk's own count rose; no stream's fault, nothing that the words decide, and nothing
-- that making or opening a log answers.
abbrev pub LifeCause : ℕ → ℕ → Status → Type 0
LifeCause before now statuses.LogFault = Rose before now
LifeCause before now statuses.SourceFault = ⊥
LifeCause before now statuses.SinkFault = ⊥
LifeCause before now statuses.Usage = ⊥
LifeCause before now statuses.NoGenerator = ⊥
LifeCause before now statuses.Done = ⊥
LifeCause before now statuses.AlreadyFormatted = ⊥
LifeCause before now statuses.NotFormatted = ⊥
LifeCause before now (statuses.LogBad block byte) = ⊥
LifeCause before now _ = Unit {0}
