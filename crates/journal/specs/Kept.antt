-- What holds of a journal whenever its lock is free.
use Rattle.std.specs.Prelude.{◌≡◌, ℕ, ◌+◌, ◌^◌, ◌<◌, ◌≤◌, List, length, Option, None, is_some, true}
use Rattle.log_blocks.specs.LogState.{durable_lsn}
use Rattle.log_index.specs.GoingOn.{may_go_on}
use Rattle.log_index.specs.declared.listing.Listing.{Listing}
use Rattle.log_manager.specs.Managed.{Managed}
use Rattle.media.specs.Kept.{Kept}
use Rattle.range_lock.specs.declared.range_locks.RangeLocks.{RangeLocks}
use Rattle.wal_record.specs.History.{life_log, live_count}
use Rattle.wal_record.specs.declared.record.Record.{Record}
use Rattle.wal_record.specs.declared.entry.Entry.{Entry}
use Rattle.listed_log.specs.Listed.{IsLogWith}
use Rattle.journal.specs.Locks.{AreHeld, AreAcknowledged}

-- a log with which the life may have begun is known only where its disk tells what it keeps
abbrev pub IsTold : (List Record → Type 0) → Type 0 → Type 0
IsTold opens tells = (opening : List Record) → opens opening → tells

-- Whatever log the life began with, the journal's log and its listing are those of the life. The listing knows the last record
-- of each transaction that may go on behind that log.
abbrev pub AreRecords : {D : Type 0} → (List Record → Type 0) → Type 0 → (D → Kept) → (D → Kept → Type 0) → List Entry → Managed D → Listing → Type 0
AreRecords opens tells told may_leave h m s = (opening : List Record) → opens opening → IsLogWith tells told may_leave (may_go_on opening) (life_log opening h) m s

-- there is room for the commit of each transaction that is live, and LSNs
pub record HasPlaces (opens : List Record → Type 0) (h : List Entry) (spare : ℕ) : Type 0 where
  pub commits : live_count h ≤ spare
  pub numbers : (opening : List Record) → opens opening → length (life_log opening h) + live_count h ≤ 2 ^ 62 + 66

-- The log has the records of the life; the locks are those of the history; the number that passes were told last is that of
-- a durable record.
pub record IsOfLife {D : Type 0} (opens : List Record → Type 0) (tells : Type 0) (told : D → Kept) (may_leave : D → Kept → Type 0) (h : List Entry) (m : Managed D) (s : Listing) (t : RangeLocks) (mark : ℕ) : Type 0 where
  pub records : AreRecords opens tells told may_leave h m s
  pub locks : AreHeld h t
  pub telling : IsTold opens tells
  pub places : HasPlaces opens h m.spare
  pub durable : (opening : List Record) → opens opening → tells → mark ≤ durable_lsn m.log.places

-- As long as the log hasn't ended no commit waits, and no fault of its disk was counted. Where it has ended, one was.
pub record EndsByFault (ended : Option ℕ) (h : List Entry) (faults : ℕ) : Type 0 where
  pub acknowledged : ended ≡ None → AreAcknowledged h
  pub none : ended ≡ None → faults ≡ 0
  pub one : is_some ended ≡ true → 0 < faults

pub record IsKept {D : Type 0} (opens : List Record → Type 0) (tells : Type 0) (told : D → Kept) (may_leave : D → Kept → Type 0) (h : List Entry) (m : Managed D) (s : Listing) (t : RangeLocks) (mark faults : ℕ) : Type 0 where
  pub life : IsOfLife opens tells told may_leave h m s t mark
  pub ends : EndsByFault m.log.ended h faults
