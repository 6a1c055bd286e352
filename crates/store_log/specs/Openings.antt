-- Openings and formats of a disk that keeps a log that may be found.
use Rattle.std.specs.Prelude.{◌≡◌, ℕ, List, []}
use Rattle.media.specs.declared.disk.Disk.{Ghosts}
use Rattle.media.specs.Kept.{Kept}
use Rattle.log_manager.specs.Records.{StandsForMoreRecords}
use Rattle.opening.specs.declared.reading.WhyNot.{WhyNot}
use Rattle.opening.specs.declared.reading.WhyNot.TheVariants as causes
use Rattle.store_model.specs.declared.fault.Fault.{Fault}
use Rattle.store_model.specs.declared.fault.Fault.TheVariants as faults
use Rattle.log_laws.specs.Right.{first_log}
use Rattle.wal_record.specs.declared.record.Record.{Record}
use Rattle.life_commands.specs.declared.status.Status.{Status}
use Rattle.life_commands.specs.declared.status.Status.TheVariants as statuses
use Rattle.life_commands.specs.LogDisk.{Keeps}
use Rattle.store_log.specs.Beginnings.{Beginning, BeginsOn}
use Rattle.life_commands.specs.Refusals.{FindsLog}
use Rattle.life_commands.specs.Turns.{Last, Formatted, Unformatted, MayFind}

-- what was so of the disk before, where it tells, is this now
abbrev pub Makes : {D : Type 0} → Ghosts D → D → (Last → Type 0) → Type 0
Makes L disk Q = L.tells → (last : Last) → Keeps L last disk → Q last

-- the disk's bytes, also after a crash, stand for the record of a format, or for none; at least for so many
pub record IsFirst {D : Type 0} (told : D → Kept) (may_leave : D → Kept → Type 0) (limit least : ℕ) (disk : D) : Type 0 where
  pub now : StandsForMoreRecords 0 1 [] (first_log limit) least (told disk)
  pub crash : (c : Kept) → may_leave disk c → StandsForMoreRecords 0 1 [] (first_log limit) least c

-- a log is made where none was
pub record IsMade {D : Type 0} (L : Ghosts D) (limit : ℕ) (left : D) (last : Last) : Type 0 where
  pub none : MayFind last []
  pub keeps : Keeps L (Formatted limit) left

-- why a log isn't made
abbrev pub IsNotMade : {D : Type 0} → Ghosts D → ℕ → D → D → Status → Type 0
IsNotMade L limit disk left statuses.Memory = Makes L disk (λ last. Keeps L last left)
IsNotMade L limit disk left statuses.LogFault = Makes L disk (λ last. Keeps L (Unformatted last limit) left)
IsNotMade L limit disk left statuses.AlreadyFormatted = Makes L disk (λ last. FindsLog last × Keeps L last left)
IsNotMade L limit disk left _ = ⊥

-- a life may begin on a log that may be found
pub record IsBegun {D : Type 0} (tells : Type 0) (L : Ghosts D) (b : Beginning D) (last : Last) : Type 0 where
  pub opening : List Record
  pub found : MayFind last opening
  pub begins : BeginsOn tells L b opening

-- the statuses of an opening
abbrev pub CanRefuseOpening : Status → Type 0
CanRefuseOpening statuses.Memory = Unit {0}
CanRefuseOpening statuses.LogFault = Unit {0}
CanRefuseOpening (statuses.LogBad block byte) = Unit {0}
CanRefuseOpening statuses.NotFormatted = Unit {0}
CanRefuseOpening _ = ⊥

-- why no life begins, where the disk was used so last
abbrev pub IsNotBegunAt : {D : Type 0} → Ghosts D → Last → D → Status → Type 0
IsNotBegunAt L last left statuses.Memory = Keeps L last left
IsNotBegunAt L last left statuses.LogFault = Keeps L last left
IsNotBegunAt L last left (statuses.LogBad block byte) = ⊥
IsNotBegunAt L last left statuses.NotFormatted = MayFind last [] × Keeps L last left
IsNotBegunAt L last left _ = ⊥

abbrev pub IsNotBegun : {D : Type 0} → Ghosts D → D → D → Status → Type 0
IsNotBegun L disk left status = CanRefuseOpening status × Makes L disk (λ last. IsNotBegunAt L last left status)

-- the status of a fault, where a log isn't made, and where it isn't opened
abbrev pub MadeStatus : Fault → Status → Type 0
MadeStatus faults.LogFault status = status ≡ statuses.LogFault
MadeStatus (faults.LogBad block byte) status = status ≡ statuses.AlreadyFormatted
MadeStatus fault status = status ≡ statuses.Memory

abbrev pub ReadStatus : WhyNot → Status → Type 0
ReadStatus causes.NotFormatted status = status ≡ statuses.NotFormatted
ReadStatus (causes.Fault faults.LogFault) status = status ≡ statuses.LogFault
ReadStatus (causes.Fault (faults.LogBad block byte)) status = status ≡ statuses.LogBad block byte
ReadStatus (causes.Fault fault) status = status ≡ statuses.Memory

abbrev pub IsFault : Status → Type 0
IsFault statuses.Memory = Unit {0}
IsFault statuses.LogFault = Unit {0}
IsFault _ = ⊥
