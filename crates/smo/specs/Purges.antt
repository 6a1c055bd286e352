-- The group of a purge.
use Rattle.std.specs.Prelude.{ℕ, List, [], ◌∷◌, None, false, Result, Ok, Err}
use Rattle.store_model.specs.declared.fault.Fault.{Fault}
use Rattle.wal_record.specs.declared.record.Record.{Record}
use Rattle.wal_record.specs.declared.record.Record.TheVariants as kinds
use Rattle.wal_record.specs.declared.entry.Entry.{Entry}
use Rattle.wal_record.specs.declared.entry.Entry.TheVariants as entries
use Rattle.page_ops.specs.Names.{LedgerName}
use Rattle.page_ops.specs.Seeing.{Known, Enters}
use Rattle.page_ops.specs.declared.group.Group.{Group}

abbrev pub purge_of : ℕ → ℕ → Record
purge_of page prev = kinds.Purge (record { page = page; page_prev = prev })

abbrev pub purge_group : ℕ → ℕ → Group
purge_group page prev = record { recs = purge_of page prev ∷ []; said = None; room = false; lsn = 0 }

-- it enters the page's purge, or nothing where it is refused
abbrev pub purge_entries : ℕ → ℕ → ℕ → Result ℕ Fault → List Entry
purge_entries page lsn prev (Ok pos) = entries.Rec lsn (purge_of page prev) ∷ []
purge_entries page lsn prev (Err fault) = []

pub record EntersPurge (opens : List Record → Type 0) (ledger sessions : LedgerName) (page : ℕ) (result : Result ℕ Fault) (old new : Known) : Type 0 where
  pub lsn : ℕ
  pub prev : ℕ
  pub enters : Enters opens ledger sessions old (purge_entries page lsn prev result) new
