-- What a step in undoing the losers of the opening log adds to a life's history.
use Rattle.std.specs.Prelude.{◌≡◌, ℕ, List, [], ◌∷◌, ◌++◌, Result, Ok, Err, Bool, true, false}
use Rattle.std.specs.List.{All}
use Rattle.store_model.specs.declared.fault.Fault.{Fault}
use Rattle.store_model.specs.declared.fault.Fault.TheVariants as faults
use Rattle.wal_record.specs.declared.record.Record.{Record}
use Rattle.wal_record.specs.declared.record.Record.TheVariants as kinds
use Rattle.wal_record.specs.declared.entry.Entry.{Entry}
use Rattle.wal_record.specs.declared.entry.Entry.TheVariants.{Rec}
use Rattle.command_laws.specs.Commands.{IsUpkeep}
use Rattle.maintenance.specs.Steps.{AreAllOver, IsLeastLeft}
use Rattle.maintenance.specs.declared.step.Step.{Step}
use Rattle.maintenance.specs.declared.step.Step.TheVariants as steps

-- whether a step was taken, where nobody else ends a loser
abbrev pub was_taken : Result Step Fault → Result Bool Fault
was_taken (Ok steps.NoLoser) = Ok false
was_taken (Ok (steps.Undone pos)) = Ok true
was_taken (Ok (steps.Ended pos)) = Ok true
was_taken (Ok (steps.Late pos)) = Err faults.Memory
was_taken (Err fault) = Err fault

-- the Undo of a write of a loser, or its End
abbrev pub IsStep : (ℕ → Type 0) → Entry → Type 0
IsStep loser (Rec lsn (kinds.Undo u)) = loser u.tx
IsStep loser (Rec lsn (kinds.End e)) = loser e.tx
IsStep loser e = ⊥

-- such an entry was added, of the least loser that was left, and before it upkeep alone
pub record AddsStep (opens : List Record → Type 0) (h h' : List Entry) : Type 0 where
  pub before : List Entry
  pub kept_up : All IsUpkeep before
  pub step : Entry
  pub is : IsStep (IsLeastLeft opens h) step
  pub added : h' ≡ h ++ (before ++ step ∷ [])

-- upkeep alone was added
abbrev pub AddsUpkeep : List Entry → List Entry → Type 0
AddsUpkeep h h' = (es : List Entry) × All IsUpkeep es × (h' ≡ h ++ es)

-- a step was taken, or no loser is left
abbrev pub StepsBack : (List Record → Type 0) → Result Bool Fault → List Entry → List Entry → Type 0
StepsBack opens (Ok true) h h' = AddsStep opens h h'
StepsBack opens (Ok false) h h' = (h' ≡ h) × AreAllOver opens h
StepsBack opens (Err fault) h h' = AddsUpkeep h h'
