-- What a help adds to a life's history.
use Rattle.std.specs.Prelude.{◌≡◌, ◌+◌, ◌≤◌, ℕ, List, ◌++◌, length, filter, Bool, true, false}
use Rattle.std.specs.List.{All}
use Rattle.wal_record.specs.declared.record.Record.TheVariants as kinds
use Rattle.wal_record.specs.declared.entry.Entry.{Entry}
use Rattle.wal_record.specs.declared.entry.Entry.TheVariants.{Rec}
use Rattle.command_laws.specs.Commands.{Among, IsUpkeep}
use Rattle.store_life.specs.Steps.{IsStep}
use Rattle.store_pages.specs.Backed.{IsRunEntry}
use Rattle.store_pages.specs.Pages.{IsWrittenEntry}

-- A help's own entries: the Undos and Ends of losers, what pages that are brought enter, that pages were written, and that
-- archive runs are done; of all but the second together so many at most.
pub record AreOfHelp (loser : ℕ → Type 0) (steps : ℕ) (own : List Entry) : Type 0 where
  pub undone : List Entry
  pub each : All (IsStep loser) undone
  pub redone : List Entry
  pub kept_up : All IsUpkeep redone
  pub written : List Entry
  pub pages : All IsWrittenEntry written
  pub runs : List Entry
  pub archived : All IsRunEntry runs
  pub few : length undone + length written + length runs ≤ steps
  pub is : own ≡ undone ++ (redone ++ (written ++ runs))

-- those were added, and between them upkeep
pub record Helps (loser : ℕ → Type 0) (steps : ℕ) (h h' : List Entry) : Type 0 where
  pub own : List Entry
  pub are : AreOfHelp loser steps own
  pub entries : List Entry
  pub among : Among IsUpkeep own entries
  pub added : h' ≡ h ++ entries

-- ---- steps in undoing losers

-- the entry is an Undo or an End
abbrev pub takes_back : Entry → Bool
takes_back (Rec lsn (kinds.Undo u)) = true
takes_back (Rec lsn (kinds.End e)) = true
takes_back e = false

-- so many such were added, of losers, and between them upkeep
pub record Undoes (loser : ℕ → Type 0) (steps : ℕ) (h h' : List Entry) : Type 0 where
  pub own : List Entry
  pub each : All (IsStep loser) own
  pub count : length own ≡ steps
  pub entries : List Entry
  pub among : Among IsUpkeep own entries
  pub added : h' ≡ h ++ entries

-- fewer than so many, and behind them upkeep
pub record UndoesSome (loser : ℕ → Type 0) (steps : ℕ) (h h' : List Entry) : Type 0 where
  pub taken : ℕ
  pub few : taken ≤ steps
  pub between : List Entry
  pub undoes : Undoes loser taken h between
  pub more : List Entry
  pub kept_up : All IsUpkeep more
  pub added : h' ≡ between ++ more

-- so many Undos and Ends were added
abbrev pub AddsSteps : ℕ → List Entry → List Entry → Type 0
AddsSteps steps h h' = (es : List Entry) × (h' ≡ h ++ es) × (length (filter takes_back es) ≡ steps)
