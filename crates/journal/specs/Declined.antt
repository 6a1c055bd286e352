-- Where there is no room for the write of a group.
use Rattle.std.specs.Prelude.{◌≡◌, ℕ, ◌+◌, List, ◌++◌, length, Some, None, IsSome, Result, Ok, Err}
use Rattle.books.specs.Rights.{SessionClaim}
use Rattle.store_model.specs.declared.fault.Fault.{Fault}
use Rattle.store_model.specs.declared.fault.Fault.TheVariants as faults
use Rattle.store_model.specs.declared.reply.Outcome.TheVariants as outcomes
use Rattle.wal_record.specs.Chains.{pages}
use Rattle.wal_record.specs.History.{life_log}
use Rattle.wal_record.specs.OpenWrites.{pending}
use Rattle.wal_record.specs.declared.record.Record.{Record}
use Rattle.wal_record.specs.declared.entry.Entry.{Entry}
use Rattle.page_ops.specs.Claims.{Claims}
use Rattle.page_ops.specs.Groups.{declined_entries}
use Rattle.page_ops.specs.Seeing.{Account, of_sessions}
use Rattle.page_ops.specs.declared.group.Group.{Group}
use Rattle.page_ops.specs.declared.outcome.Entered.{Entered}
use Rattle.page_ops.specs.declared.outcome.Entered.TheVariants as entered
use Rattle.life_history.specs.Kept.{counted_more}
use Rattle.journal.specs.declared.taken.Taken.{Taken}

-- so many pages and pending writes the life's log has
abbrev pub IsTaken : (List Record → Type 0) → List Entry → Taken → Type 0
IsTaken opens h x = (opening : List Record) → opens opening → (x.pages ≡ pages (life_log opening h)) × (x.pending ≡ pending (life_log opening h))

-- nothing was entered
pub record IsSame (x x' : Claims) (a a' : Account) (h h' : List Entry) : Type 0 where
  pub history : h' ≡ h
  pub rights : x' ≡ x
  pub counted : a' ≡ a

-- that the request of the group is declined was entered, and the right to its session has one entry more
pub record EntersDeclined (opens : List Record → Type 0) (asked : Group) (x x' : Claims) (a a' : Account) (h h' : List Entry) (full : Taken) (at : ℕ) : Type 0 where
  pub some : IsSome asked.said
  pub history : h' ≡ h ++ declined_entries asked.said (outcomes.Full full.pages full.pending)
  pub place : at ≡ length h'
  pub told : IsTaken opens h full
  pub s : SessionClaim
  pub was : x.s ≡ Some s
  pub rights : x' ≡ record x { s = Some (record { session = s.session; entries = s.entries + 1; tx = s.tx }) }
  pub counted : a' ≡ counted_more a 1
  pub belongs : of_sessions h' ≡ of_sessions h + 1

-- what became of a group for whose write there is no room: its request was declined; or it has none, or memory is wanted,
-- and nothing was entered
abbrev pub IsDeclined : (List Record → Type 0) → Group → Result Entered Fault → Claims → Claims → Account → Account → List Entry → List Entry → Type 0
IsDeclined opens asked (Ok entered.NoRoom) x x' a a' h h' = (asked.said ≡ None) × IsSame x x' a a' h h'
IsDeclined opens asked (Err faults.Memory) x x' a a' h h' = IsSame x x' a a' h h'
IsDeclined opens asked (Err (faults.Full pages_then pending_then at)) x x' a a' h h' = EntersDeclined opens asked x x' a a' h h' (record { pages = pages_then; pending = pending_then }) at
IsDeclined opens asked _ x x' a a' h h' = ⊥
