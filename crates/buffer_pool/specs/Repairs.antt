-- What a page that is brought enters.
use Rattle.std.specs.Prelude.{◌≡◌, ◌⊎◌, ℕ, List, [], ◌∷◌, Bool, true, false, Result, Ok, Err}
use Rattle.store_model.specs.declared.fault.Fault.{Fault}
use Rattle.wal_record.specs.History.{life_log}
use Rattle.wal_record.specs.Upkeep.{written_lsn}
use Rattle.wal_record.specs.declared.record.Record.{Record}
use Rattle.wal_record.specs.declared.entry.Entry.{Entry}
use Rattle.wal_record.specs.declared.entry.Entry.TheVariants as entries
use Rattle.page_ops.specs.Names.{LedgerName}
use Rattle.page_ops.specs.Gains.{Gains}
use Rattle.page_ops.specs.Seeing.{Known}

-- The page's repair, where it was rebuilt without an image of the data device; none where no image was written since the last loss.
abbrev pub IsRepairOf : (List Record → Type 0) → ℕ → Bool → List Entry → List Entry → Type 0
IsRepairOf opens page true h own = own ≡ []
IsRepairOf opens page false h own = (own ≡ entries.Repaired page ∷ []) ⊎ ((own ≡ []) × ((opening : List Record) → opens opening → written_lsn (life_log opening h) page ≡ 0))

-- once it is rebuilt
abbrev pub IsRepair : {T : Type 0} → (List Record → Type 0) → ℕ → Bool → Result T Fault → List Entry → List Entry → Type 0
IsRepair opens page given (Err fault) h own = own ≡ []
IsRepair opens page given (Ok x) h own = IsRepairOf opens page given h own

-- that, and nothing else, was entered by this call
pub record Repairs {T : Type 0} (opens : List Record → Type 0) (ledger sessions : LedgerName) (page : ℕ) (given : Bool) (result : Result T Fault) (old new : Known) : Type 0 where
  pub own : List Entry
  pub is : IsRepair opens page given result new.log own
  pub gains : Gains opens ledger sessions own old new
