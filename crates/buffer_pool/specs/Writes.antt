-- What a page that is written to the data device enters, and what becomes of it.
use Rattle.std.specs.Prelude.{◌≡◌, ℕ, List, [], ◌∷◌, Bool, true, false, Option, Some, None, Result, Ok, Err, if◌then◌else◌}
use Rattle.store_model.specs.declared.fault.Fault.{Fault}
use Rattle.wal_record.specs.declared.record.Record.{Record}
use Rattle.wal_record.specs.declared.record.Record.TheVariants as kinds
use Rattle.wal_record.specs.declared.entry.Entry.{Entry}
use Rattle.wal_record.specs.declared.entry.Entry.TheVariants as entries
use Rattle.page_image.specs.Image.{image_bytes}
use Rattle.page_ops.specs.Desks.{Faults}
use Rattle.page_ops.specs.Hands.{Hand}
use Rattle.page_ops.specs.Names.{LedgerName}
use Rattle.page_ops.specs.Gains.{Gains}
use Rattle.page_ops.specs.Seeing.{Known}
use Rattle.page_ops.specs.declared.group.Group.{Group}
use Rattle.buffer_pool.specs.Tables.{Table, frame_of}
use Rattle.buffer_pool.specs.declared.frame.Frame.{Frame}
use Rattle.buffer_pool.specs.declared.frame.Frame.TheVariants.{Empty, Kept, Full}

-- of a call that makes no device calls of its own but on the data device
abbrev pub no_faults : Faults
no_faults = record { log = 0; vault = 0 }

abbrev pub written_of : ℕ → ℕ → Record
written_of page lsn = kinds.Written (record { page = page; lsn = lsn })

abbrev pub written_group : ℕ → ℕ → Group
written_group page lsn = record { recs = written_of page lsn ∷ []; said = None; room = false; lsn = 0 }

-- that the page was written as this LSN, where it was
abbrev pub written_entries : ℕ → ℕ → Result Bool Fault → ℕ → List Entry
written_entries page lsn (Ok true) at = entries.Rec at (written_of page lsn) ∷ []
written_entries page lsn (Ok false) at = []
written_entries page lsn (Err fault) at = []

abbrev pub is_written : Entry → Bool
is_written (entries.Rec lsn (kinds.Written w)) = true
is_written _ = false

-- that, and nothing else, was entered by this call
pub record EntersWritten (opens : List Record → Type 0) (ledger sessions : LedgerName) (page lsn : ℕ) (result : Result Bool Fault) (old new : Known) : Type 0 where
  pub at : ℕ
  pub gains : Gains opens ledger sessions (written_entries page lsn result at) old new

-- a page that was written is clean; else it is as before
abbrev pub IsWrittenAs : Result Bool Fault → Hand → Hand → Type 0
IsWrittenAs (Ok true) old new = new ≡ record old { dirty = false }
IsWrittenAs (Ok false) old new = new ≡ old
IsWrittenAs (Err fault) old new = new ≡ old

-- ---- a page of the pool

-- that it was written as its LSN, exactly where it was dirty in its frame and is there still
abbrev pub written_out : ℕ → ℕ → Frame Hand → Frame Hand → List Entry
written_out page at (Full h) (Full now) = if h.dirty then entries.Rec at (written_of page h.lsn) ∷ [] else []
written_out page at (Full h) Kept = []
written_out page at (Full h) Empty = []
written_out page at Kept now = []
written_out page at Empty now = []

-- what the data device was given last of a page that was dirty in its frame and is there still: the page's image at its LSN
abbrev pub HasImageOf : ℕ → Frame Hand → Frame Hand → Option (List ℕ) → Type 0
HasImageOf page (Full h) (Full now) newest = h.dirty ≡ true → newest ≡ Some (image_bytes page h.lsn h.state)
HasImageOf page (Full h) Kept newest = Unit {0}
HasImageOf page (Full h) Empty newest = Unit {0}
HasImageOf page Kept now newest = Unit {0}
HasImageOf page Empty now newest = Unit {0}

-- That, and nothing else, was entered; after a refusal nothing.
abbrev pub WritesOut : {T : Type 0} → (List Record → Type 0) → LedgerName → LedgerName → ℕ → Result T Fault → Table → Table → Known → Known → Type 0
WritesOut opens ledger sessions page (Ok x) t t' old new = (at : ℕ) × Gains opens ledger sessions (written_out page at (frame_of t page) (frame_of t' page)) old new
WritesOut opens ledger sessions page (Err fault) t t' old new = Gains opens ledger sessions [] old new
