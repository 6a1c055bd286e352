-- What a page that is brought makes of a pool, and what it enters.
use Rattle.std.specs.Prelude.{◌≡◌, ◌⊎◌, ℕ, List, ◌++◌, [], Option, Some, None, Bool, true, is_some, not, IfSome, IfNone, IsTrue, Result, Ok, Err}
use Rattle.std.specs.List.{list_all}
use mathlib.Core.List.{IsPrefix}
use Rattle.media.specs.Cause.{Rose}
use Rattle.store_model.specs.declared.fault.Fault.{Fault}
use Rattle.wal_record.specs.History.{life_log}
use Rattle.wal_record.specs.Upkeep.{written_lsn}
use Rattle.wal_record.specs.declared.record.Record.{Record}
use Rattle.wal_record.specs.declared.entry.Entry.{Entry}
use Rattle.page_image.specs.declared.sealed.Sealed.{Sealed}
use Rattle.page_ops.specs.Gains.{Gains}
use Rattle.page_ops.specs.Hands.{Hand}
use Rattle.page_ops.specs.Names.{LedgerName}
use Rattle.page_ops.specs.Seeing.{Known, Upholds}
use Rattle.page_repair.specs.Supplies.{is_restored}
use Rattle.buffer_pool.specs.Bases.{IsBaseAmong, IsGiven, is_current}
use Rattle.buffer_pool.specs.Repairs.{IsRepairOf}
use Rattle.buffer_pool.specs.Tables.{Moves, PutsIn, SendsHome, Stays, Table, frame_of, is_full, right_of}
use Rattle.buffer_pool.specs.declared.frame.Frame.TheVariants.{Empty, Full}

-- at some moment between these two, this was the LSN as which the page was written last since the last loss, 0 for none
pub record WasWritten (opens : List Record → Type 0) (before now : List Entry) (page lsn : ℕ) : Type 0 where
  pub moment : List Entry
  pub begins : IsPrefix before moment
  pub goes_on : IsPrefix moment now
  pub is : (opening : List Record) → opens opening → lsn ≡ written_lsn (life_log opening moment) page

-- what the data device gave of the page, nothing only where its count of faults rose, and exactly what of that serves as a base
pub record IsLookedFor (opens : List Record → Type 0) (page head : ℕ) (faults faults_now : ℕ) (old new : Known) (base : Option Sealed) : Type 0 where
  pub bytes : Option (List ℕ)
  pub given : IfSome bytes (IsGiven opens (record { log = new.log; durable = new.durable }) page)
  pub failed : IfNone bytes (Rose faults faults_now)
  pub written : ℕ
  pub last : WasWritten opens old.log new.log page written
  pub serves : IsBaseAmong page written head bytes base

-- what was restored was entered, and behind that the page's repair, where there was no base; nothing else by this call
pub record EntersRepair (opens : List Record → Type 0) (ledger sessions : LedgerName) (page : ℕ) (given : Bool) (old new : Known) : Type 0 where
  pub restored : List Entry
  pub kinds : IsTrue (list_all is_restored restored)
  pub repair : List Entry
  pub is : IsRepairOf opens page given new.log repair
  pub gains : Gains opens ledger sessions (restored ++ repair) old new

-- The page is in hand at this LSN, by a look at the data device. It is dirty exactly where that didn't give it as it is there.
pub record IsBrought (opens : List Record → Type 0) (ledger sessions : LedgerName) (page lsn faults faults_now : ℕ) (hand : Hand) (old new : Known) : Type 0 where
  pub whose : hand.page ≡ page
  pub place : hand.lsn ≡ lsn
  pub base : Option Sealed
  pub looked : IsLookedFor opens page lsn faults faults_now old new base
  pub dirty : hand.dirty ≡ not (is_current lsn base)
  pub enters : EntersRepair opens ledger sessions page (is_some base) old new

-- after a refusal nothing is entered but what was restored
abbrev pub BringsInHand : (List Record → Type 0) → LedgerName → LedgerName → ℕ → ℕ → ℕ → ℕ → Result Hand Fault → Known → Known → Type 0
BringsInHand opens ledger sessions page lsn faults faults_now (Ok hand) old new = IsBrought opens ledger sessions page lsn faults faults_now hand old new
BringsInHand opens ledger sessions page lsn faults faults_now (Err fault) old new = Upholds opens ledger sessions is_restored old new

-- the page was in its frame, and nothing is entered
pub record WasThere (opens : List Record → Type 0) (ledger sessions : LedgerName) (page : ℕ) (t t' : Table) (old new : Known) : Type 0 where
  pub there : is_full (frame_of t page) ≡ true
  pub same : Stays t t'
  pub gains : Gains opens ledger sessions [] old new

-- its frame was empty and its right at home; it is in its frame at the LSN of the right
pub record ComesIn (opens : List Record → Type 0) (ledger sessions : LedgerName) (page faults faults_now : ℕ) (t t' : Table) (old new : Known) : Type 0 where
  pub lsn : ℕ
  pub was : frame_of t page ≡ Empty
  pub home : right_of t page ≡ Some (record { page = page; lsn = lsn })
  pub hand : Hand
  pub brought : IsBrought opens ledger sessions page lsn faults faults_now hand old new
  pub now : Moves page (Full hand) None t t'

-- A page that is brought was in its frame, or comes there. After a refusal each frame is as before, and each right where it was.
abbrev pub Brings : {T : Type 0} → (List Record → Type 0) → LedgerName → LedgerName → ℕ → ℕ → ℕ → Result T Fault → Table → Table → Known → Known → Type 0
Brings opens ledger sessions page faults faults_now (Ok x) t t' old new = WasThere opens ledger sessions page t t' old new ⊎ ComesIn opens ledger sessions page faults faults_now t t' old new
Brings opens ledger sessions page faults faults_now (Err fault) t t' old new = Stays t t' × Upholds opens ledger sessions is_restored old new

-- A page that is renewed is in its frame again, where the pool has one for it, at its LSN, and dirty. After a refusal its right is at
-- home.
abbrev pub Renews : {T : Type 0} → Hand → Result T Fault → Table → Table → Type 0
Renews h (Ok x) old new = (again : Hand) × (again.page ≡ h.page) × (again.lsn ≡ h.lsn) × (again.dirty ≡ true) × PutsIn again old new
Renews h (Err fault) old new = SendsHome (record { page = h.page; lsn = h.lsn }) old new
