-- With which logs a life may begin, and why with none.
use Rattle.std.specs.Prelude.{◌≡◌, ◌≢◌, ◌≤◌, ◌^◌, ℕ, List, [], length, None}
use Rattle.log_blocks.specs.Opening.{IsLogFault, RoseFor}
use Rattle.log_index.specs.GoingOn.{may_go_on}
use Rattle.log_index.specs.declared.listing.Listing.{Listing}
use Rattle.log_manager.specs.Devices.{StandsForLog}
use Rattle.log_manager.specs.Managed.{IsNoBadLog, Managed}
use Rattle.listed_log.specs.Listed.{IsLogWith}
use Rattle.media.specs.Kept.{Kept}
use Rattle.page_ops.specs.Names.{LedgerName}
use Rattle.page_ops.specs.Seeing.{Account, Counted}
use Rattle.stop_laws.specs.Stops.{IsSafe}
use Rattle.wal_record.specs.Sound.{IsSound}
use Rattle.wal_record.specs.declared.record.Record.{Record}
use Rattle.opening.specs.declared.reading.WhyNot.{WhyNot}
use Rattle.opening.specs.declared.reading.WhyNot.TheVariants as causes

-- The bytes that the disk tells stand for this sound log. What a crash would leave of it now isn't asked: an opening syncs it.
pub record IsKept {D : Type 0} (told : D → Kept) (disk : D) (opening : List Record) : Type 0 where
  pub sound : IsSound opening
  pub stands : StandsForLog opening (told disk)

-- A life may begin with this log: the blocks have it, all of it durable, the listing is its own, and knows the last record of
-- each transaction that may go on. Only of a disk that tells what it keeps is such a log known.
pub record MayBegin {D : Type 0} (tells : Type 0) (told : D → Kept) (may_leave : D → Kept → Type 0) (m : Managed D) (s : Listing) (opening : List Record) : Type 0 where
  pub telling : tells
  pub sound : IsSound opening
  pub some : opening ≢ []
  pub few : length opening ≤ 2 ^ 62
  pub records : IsLogWith tells told may_leave (may_go_on opening) opening m s
  -- all of it is durable, and enough for the next opening
  pub safe : IsSafe told may_leave opening [] m.log

-- Where the disk stands for this log, it wasn't opened for want of memory, because a device call failed, or because it has no
-- record; never because a block is bad.
abbrev pub IsWhyNot : List Record → WhyNot → Type 0
IsWhyNot opening causes.NotFormatted = opening ≡ []
IsWhyNot opening (causes.Fault fault) = IsNoBadLog fault

-- a fault of the disk was counted
abbrev pub RoseForWhy : ℕ → ℕ → WhyNot → Type 0
RoseForWhy before now causes.NotFormatted = Unit {0}
RoseForWhy before now (causes.Fault fault) = RoseFor before now fault

-- a device call failed
abbrev pub IsForLogFault : WhyNot → Type 0
IsForLogFault causes.NotFormatted = ⊥
IsForLogFault (causes.Fault fault) = IsLogFault fault

-- all parts of a ledger, with which nothing was counted yet
abbrev pub all_of : LedgerName → Counted
all_of ledger = record { parts = ledger.parts; amount = 0 }

-- what a thread counts with as its life begins, where it has all parts of each ledger
abbrev pub all_parts : LedgerName → LedgerName → LedgerName → LedgerName → LedgerName → Account
all_parts entries session_entries log_faults vault_faults made = record {
  entries = all_of entries;
  session_entries = all_of session_entries;
  log_faults = all_of log_faults;
  vault_faults = all_of vault_faults;
  made = all_of made;
  ended = None;
  calls = None;
}
