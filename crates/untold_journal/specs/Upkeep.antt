-- A history to which only the upkeep of pages adds.
use Rattle.std.specs.Prelude.{◌≡◌, ℕ, List, [], ◌∷◌, length, false, None}
use Rattle.books.specs.declared.entry.BookEntry.{BookEntry}
use Rattle.wal_record.specs.Legal.{untold}
use Rattle.wal_record.specs.declared.record.Record.{Record}
use Rattle.wal_record.specs.declared.record.Record.TheVariants as kinds
use Rattle.wal_record.specs.declared.entry.Entry.{Entry}
use Rattle.wal_record.specs.declared.entry.Entry.TheVariants.{Rec, Repaired}
use Rattle.page_ops.specs.Causes.{IsUntold}
use Rattle.page_ops.specs.Seeing.{of_sessions}
use Rattle.page_ops.specs.declared.group.Group.{Group}

-- a page was written or repaired, or a segment restored
abbrev pub IsUpkeep : Entry → Type 0
IsUpkeep (Rec lsn (kinds.Written w)) = Unit {0}
IsUpkeep (Rec lsn (kinds.Restored r)) = Unit {0}
IsUpkeep (Repaired page) = Unit {0}
IsUpkeep _ = ⊥

-- no opening log is known, each write was told, nobody has a session or the maintenance, and all is counted
pub record IsKept (opens : List Record → Type 0) (h : List Entry) (count total of_session : ℕ) (sessions maint : List BookEntry) : Type 0 where
  pub none : IsUntold opens
  pub told : untold h ≡ None
  pub counted : count ≡ length h
  pub totals : total ≡ length h
  pub session_totals : of_session ≡ of_sessions h
  pub no_session : sessions ≡ []
  pub no_maint : maint ≡ []

-- the group has one such record alone, and this is its entry
pub record IsAloneIn (g : Group) (lsn : ℕ) (e : Entry) : Type 0 where
  pub rec : Record
  pub is : g ≡ record { recs = rec ∷ []; said = None; room = false; lsn = g.lsn }
  pub upkeep : IsUpkeep (Rec lsn rec)
  pub entry : e ≡ Rec lsn rec
