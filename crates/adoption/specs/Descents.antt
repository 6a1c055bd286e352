-- The descent of a write: what it enters, what it leaves, and what it says of the path behind it.
use Rattle.std.specs.Prelude.{◌≡◌, ◌≤◌, ℕ, List, length, Some, is_some, Bool, true, false, nat_le}
use Rattle.front.specs.Seen.{PassSeen}
use Rattle.store_model.specs.declared.fault.Fault.{Fault}
use Rattle.wal_record.specs.History.{life_log}
use Rattle.wal_record.specs.Images.{image}
use Rattle.wal_record.specs.declared.page.PageState.{PageState}
use Rattle.wal_record.specs.declared.record.Record.{Record}
use Rattle.wal_record.specs.declared.record.Record.TheVariants as kinds
use Rattle.wal_record.specs.declared.entry.Entry.{Entry}
use Rattle.wal_record.specs.declared.entry.Entry.TheVariants.{Rec}
use Rattle.foster_laws.specs.Paths.{TidyTo}
use Rattle.foster_laws.specs.Tidy.{IsTidy}
use Rattle.page_ops.specs.Causes.{FailsToBring, MeetsNoEnd}
use Rattle.page_ops.specs.Claims.{no_claims}
use Rattle.page_ops.specs.Desks.{Desk, KeepsFaults}
use Rattle.page_ops.specs.Gains.{Goes, IsSettled}
use Rattle.page_ops.specs.Hands.{Hand}
use Rattle.page_ops.specs.Names.{LedgerName}
use Rattle.page_ops.specs.Seeing.{Account, Known, is_upkeep, known}
use Rattle.foster_tree.specs.declared.way.Way.{Way}
use Rattle.foster_tree.specs.declared.way.Way.TheVariants as ways
use Rattle.adoption.specs.Adoptions.{Leads}

-- ---- what a descent of a write enters

-- adoptions, growths and splits of branches, and what the upkeep of pages enters
abbrev pub keeps_up : Entry → Bool
keeps_up (Rec lsn (kinds.Adopt a)) = true
keeps_up (Rec lsn (kinds.Grow g)) = true
keeps_up (Rec lsn (kinds.Split x)) = nat_le 1 x.child_state.level
keeps_up e = is_upkeep e

-- ---- the tidy path

-- Whoever has all parts of the ledger of entries, and has seen as many entries as were counted there, enters alone.
pub record IsAlone (ledger : LedgerName) (x : Known) : Type 0 where
  pub whole : x.account.entries.parts ≡ ledger.parts
  pub seen : x.account.entries.amount ≤ length x.log

-- for whoever enters alone, the path to the key's leaf is tidy
abbrev pub LeavesTidy : (List Record → Type 0) → LedgerName → Known → List Entry → List ℕ → Type 0
LeavesTidy opens ledger old log key = IsAlone ledger old → (opening : List Record) → opens opening → IsTidy (life_log opening log) key

-- so is the path to this page, if the page in hand is its image
abbrev pub LeadsTidy : (List Record → Type 0) → LedgerName → Known → List Entry → List ℕ → Hand → Type 0
LeadsTidy opens ledger old log key x = IsAlone ledger old → (opening : List Record) → opens opening → image (life_log opening log) x.page ≡ Some x.state → TidyTo (life_log opening log) key x.page

-- where it was so of the page p before
abbrev pub StaysTidy : (List Record → Type 0) → LedgerName → Known → List Entry → List ℕ → ℕ → Hand → Type 0
StaysTidy opens ledger old log key p x =
    IsAlone ledger old → (opening : List Record) → opens opening → TidyTo (life_log opening old.log) key p → image (life_log opening log) x.page ≡ Some x.state → TidyTo (life_log opening log) key x.page

-- the same, where the page before was the image of the one in hand
abbrev pub StaysTidyBy : (List Record → Type 0) → LedgerName → Known → List Entry → List ℕ → Hand → Hand → Type 0
StaysTidyBy opens ledger old log key before x =
    IsAlone ledger old → (opening : List Record) → opens opening → image (life_log opening old.log) before.page ≡ Some before.state → TidyTo (life_log opening old.log) key before.page
    → image (life_log opening log) x.page ≡ Some x.state → TidyTo (life_log opening log) key x.page

-- the root may begin the path to any key, if it is the image
abbrev pub BeginsTidy : (List Record → Type 0) → List Entry → Hand → Type 0
BeginsTidy opens log x = (opening : List Record) → opens opening → (key : List ℕ) → image (life_log opening log) 1 ≡ Some x.state → TidyTo (life_log opening log) key 1

-- ---- steps

-- the way leads by a row
abbrev pub IfByRow : Way → PageState → PageState → Type 0
IfByRow ways.Here s t = Unit {0}
IfByRow (ways.Child slot child) s t = Leads s child t
IfByRow (ways.Foster child) s t = Unit {0}

-- it leads by a row to a page with a foster child
abbrev pub may_adopt : Way → PageState → Bool
may_adopt ways.Here t = false
may_adopt (ways.Child slot child) t = is_some t.foster
may_adopt (ways.Foster child) t = false

-- ---- what calls leave, one after the other

-- a thread's way to the pages, what its journal's object knows, and what its pass has seen
pub record Standing : Type 0 where
  pub desk : Desk
  pub account : Account
  pub seen : PassSeen Entry

abbrev pub standing : Desk → Account → PassSeen Entry → Standing
standing desk account seen = record { desk = desk; account = account; seen = seen }

abbrev pub known_by : Standing → Known
known_by x = known x.account x.seen no_claims

-- nothing else was entered, no end was met, and faults don't fall
pub record GoesOn (x y : Standing) : Type 0 where
  pub goes : Goes keeps_up (known_by x) (known_by y)
  pub none : MeetsNoEnd x.account y.account
  pub faults : KeepsFaults x.desk.faults y.desk.faults

-- a call was refused: no page is held, and there is a cause, said of what was known before all
pub record Fails (opens : List Record → Type 0) (ledger sessions log_faults made : LedgerName) (x y : Standing) (fault : Fault) : Type 0 where
  pub goes : Goes keeps_up (known_by x) (known_by y)
  pub settled : IsSettled opens ledger sessions y.account y.seen.log
  pub why : FailsToBring opens log_faults made x.desk.faults y.desk.faults x.account y.account y.seen.log fault
  pub faults : KeepsFaults x.desk.faults y.desk.faults
  pub out : y.desk.out ≡ 0
