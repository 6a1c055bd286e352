-- The groups of a split and of a growth, and what comes of a group that makes a page.
use Rattle.std.specs.Prelude.{ℕ, List, [], ◌∷◌, Option, Some, None, Result, Ok, false, true}
use Rattle.store_model.specs.declared.fault.Fault.{Fault}
use Rattle.wal_record.specs.declared.page.PageState.{PageState}
use Rattle.wal_record.specs.declared.record.Grow.{Grow}
use Rattle.wal_record.specs.declared.record.Record.{Record}
use Rattle.wal_record.specs.declared.record.Record.TheVariants as kinds
use Rattle.wal_record.specs.declared.entry.Entry.{Entry}
use Rattle.wal_record.specs.declared.entry.Entry.TheVariants as entries
use Rattle.page_halves.specs.Parts.{split_of}
use Rattle.page_ops.specs.Desks.{Desk}
use Rattle.page_ops.specs.Names.{LedgerName}
use Rattle.page_ops.specs.Seeing.{Known, Enters}
use Rattle.page_ops.specs.declared.group.Group.{Group}

-- ---- calls that answer the page that they made, if there was room for one

-- a reserved frame is used up where a page was made
abbrev pub desk_after : Desk → Result (Option ℕ) Fault → Desk
desk_after d (Ok (Some child)) = record d { reserves = false }
desk_after d _ = d

-- the record of the new page is entered, or nothing is
abbrev pub made_entries : (ℕ → Record) → ℕ → Result (Option ℕ) Fault → List Entry
made_entries r lsn (Ok (Some child)) = entries.Rec lsn (r child) ∷ []
made_entries r lsn _ = []

-- by the LSN of the record of the page before it, and by the new page
pub record EntersMade (opens : List Record → Type 0) (ledger sessions : LedgerName) (r : ℕ → ℕ → Record) (result : Result (Option ℕ) Fault) (old new : Known) : Type 0 where
  pub lsn : ℕ
  pub prev : ℕ
  pub enters : Enters opens ledger sessions old (made_entries (r prev) lsn result) new

-- ---- splits

abbrev pub split_by : ℕ → PageState → ℕ → ℕ → Record
split_by page s prev child = kinds.Split (split_of page prev child s)

-- in the group the new page goes by the number 0
abbrev pub split_group : ℕ → PageState → Group
split_group page s = record { recs = split_by page s 0 0 ∷ []; said = None; room = true; lsn = 0 }

-- ---- growths

abbrev pub grow_of : ℕ → ℕ → PageState → Grow
grow_of prev child s = record { page_prev = prev; child = child; child_state = s }

abbrev pub grow_by : PageState → ℕ → ℕ → Record
grow_by s prev child = kinds.Grow (grow_of prev child s)

abbrev pub grow_group : PageState → Group
grow_group s = record { recs = grow_by s 0 0 ∷ []; said = None; room = true; lsn = 0 }
