-- What a step in undoing the losers of an opening log enters.
use Rattle.std.specs.Prelude.{◌≡◌, ℕ, List, [], length, filter, Some, Result, Ok, Err, IfOk, Bool, true, false, ◌==◌, IsTrue}
use Rattle.std.specs.List.{list_all, list_any}
use Rattle.store_model.specs.declared.fault.Fault.{Fault}
use Rattle.wal_record.specs.Chains.{finishes}
use Rattle.wal_record.specs.History.{life_log}
use Rattle.wal_record.specs.declared.record.Record.{Record}
use Rattle.wal_record.specs.declared.record.Record.TheVariants as kinds
use Rattle.wal_record.specs.declared.entry.Entry.{Entry}
use Rattle.wal_record.specs.declared.entry.Entry.TheVariants.{Rec}
use Rattle.page_ops.specs.Desks.{KeepsFaults}
use Rattle.page_ops.specs.Gains.{Gains}
use Rattle.page_ops.specs.Names.{LedgerName}
use Rattle.page_ops.specs.Outcomes.{first_of, losers_left}
use Rattle.rollback.specs.Endings.{IsEndAt, rolls_over}
use Rattle.rollback.specs.Rolls.{IsUndoAt, Standing, known_by}
use Rattle.maintenance.specs.declared.step.Step.{Step}
use Rattle.maintenance.specs.declared.step.Step.TheVariants as steps

-- the entry undoes a write of the transaction, or ends it
abbrev pub is_step : ℕ → Entry → Bool
is_step tx (Rec lsn (kinds.Undo u)) = u.tx == tx
is_step tx (Rec lsn (kinds.End e)) = e.tx == tx
is_step tx e = false

-- how many such entries were entered
abbrev pub steps_by : Result Step Fault → ℕ
steps_by (Ok steps.NoLoser) = 0
steps_by (Ok (steps.Undone pos)) = 1
steps_by (Ok (steps.Ended pos)) = 1
steps_by (Ok (steps.Late pos)) = 0
steps_by (Err fault) = 0

-- Calls entered these entries of their own, so many of them steps on the transaction and the others upkeep of the tree and of
-- pages, perhaps with others between; and faults don't fall.
pub record Enters (opens : List Record → Type 0) (ledger sessions : LedgerName) (tx steps : ℕ) (x y : Standing) : Type 0 where
  pub own : List Entry
  pub gains : Gains opens ledger sessions own (known_by x) (known_by y)
  pub kinds : IsTrue (list_all (rolls_over tx) own)
  pub count : length (filter (is_step tx) own) ≡ steps
  pub faults : KeepsFaults x.desk.faults y.desk.faults

-- no loser of the opening log is left without an End, of each log with which the life may have begun
abbrev pub AreAllOver : (List Record → Type 0) → List Entry → Type 0
AreAllOver opens h = (opening : List Record) → opens opening → losers_left opening h ≡ []

-- this is the least that is left
abbrev pub IsLeastLeft : (List Record → Type 0) → List Entry → ℕ → Type 0
IsLeastLeft opens h tx = (opening : List Record) → opens opening → first_of (losers_left opening h) ≡ Some tx

-- the history ends with the step, or the transaction has ended before
abbrev pub HasStepped : (List Record → Type 0) → List Entry → ℕ → Step → Type 0
HasStepped opens h tx steps.NoLoser = ⊥
HasStepped opens h tx (steps.Undone pos) = IsUndoAt tx h pos
HasStepped opens h tx (steps.Ended pos) = IsEndAt tx h pos
HasStepped opens h tx (steps.Late pos) = (opening : List Record) → opens opening → list_any (finishes tx) (life_log opening h) ≡ true

-- That became of the least loser that was left as the call looked; or none is left, and nothing was entered.
abbrev pub Steps : (List Record → Type 0) → List Entry → List Entry → ℕ → Step → Type 0
Steps opens looked h tx steps.NoLoser = (h ≡ looked) × AreAllOver opens h
Steps opens looked h tx step = IsLeastLeft opens looked tx × HasStepped opens h tx step

-- The call has looked, and what it entered then are one step on the least loser and upkeep, or nothing; a refused one has entered
-- no step.
pub record TakesStep (opens : List Record → Type 0) (ledger sessions : LedgerName) (result : Result Step Fault) (x y : Standing) : Type 0 where
  pub looked : Standing
  pub look : Gains opens ledger sessions [] (known_by x) (known_by looked)
  pub desk : looked.desk ≡ x.desk
  pub tx : ℕ
  pub enters : Enters opens ledger sessions tx (steps_by result) looked y
  pub done : IfOk result (Steps opens looked.seen.log y.seen.log tx)
