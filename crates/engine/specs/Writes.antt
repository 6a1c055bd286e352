-- A request that writes, behind its lock.
use Rattle.std.specs.Prelude.{◌≡◌, ◌+◌, ◌<◌, ℕ, List, length, Option, Some, None, IsTrue}
use mathlib.Core.List.{IsPrefix}
use Rattle.books.specs.Rights.{SessionClaim}
use Rattle.store_model.specs.Range.{point}
use Rattle.store_model.specs.declared.fault.Fault.{Fault}
use Rattle.store_model.specs.declared.fault.Fault.TheVariants as faults
use Rattle.store_model.specs.declared.range.Mode.TheVariants.{Exclusive}
use Rattle.store_model.specs.declared.request.Request.{Request}
use Rattle.store_model.specs.declared.request.Request.TheVariants as requests
use Rattle.wal_record.specs.Chains.{pages}
use Rattle.wal_record.specs.Checkpoints.{limit_of}
use Rattle.wal_record.specs.History.{life_log}
use Rattle.wal_record.specs.Legal.{held}
use Rattle.wal_record.specs.Locks.{Held}
use Rattle.wal_record.specs.OpenWrites.{pending}
use Rattle.wal_record.specs.Rules.{is_number}
use Rattle.wal_record.specs.declared.record.Record.{Record}
use Rattle.wal_record.specs.declared.entry.Entry.{Entry}
use Rattle.page_ops.specs.Claims.{SessionAgrees}
use Rattle.page_ops.specs.Seeing.{IsConsistent}
use Rattle.leaf_writes.specs.Changes.{request_of}
use Rattle.leaf_writes.specs.declared.change.How.{How}
use Rattle.leaf_writes.specs.declared.change.How.TheVariants as hows
use Rattle.engine.specs.Answers.{HasLocked}

-- what a write locks
abbrev pub write_lock : List ℕ → Held
write_lock key = held (point key) Exclusive

-- the request that a change answers; an undo answers none
abbrev pub asked_by : How → List ℕ → Option (List ℕ) → Option Request
asked_by (hows.Write old) key new = Some (request_of key new)
asked_by (hows.Apply old operator argument) key new = Some (requests.Apply operator key argument)
asked_by (hows.Undo undo_next) key new = None

-- the value that it tells
abbrev pub old_of : How → Option (List ℕ)
old_of (hows.Write old) = old
old_of (hows.Apply old operator argument) = old
old_of (hows.Undo undo_next) = None

-- the session's transaction took the lock at a moment that was seen, and the right to the session agrees still
pub record KeepsLock (opens : List Record → Type 0) (h : List Entry) (lock : Held) (s : SessionClaim) : Type 0 where
  pub before : List Entry
  pub begins : IsPrefix before h
  pub locked : HasLocked opens before lock s
  pub consistent : IsConsistent opens h
  pub agrees : SessionAgrees h s

-- of a session whose right is there, and whose transaction has a number
abbrev pub MayWrite : (List Record → Type 0) → List Entry → List ℕ → Option SessionClaim → Type 0
MayWrite opens h key None = ⊥
MayWrite opens h key (Some s) = KeepsLock opens h (write_lock key) s × IsTrue (is_number s.tx)

-- its transaction has a number
abbrev pub IsNumbered : Option SessionClaim → Type 0
IsNumbered None = ⊥
IsNumbered (Some s) = IsTrue (is_number s.tx)

-- no place is left for a write and its undo: so many pages and pending writes there are, as the request is declined last
abbrev pub LacksRoom : (List Record → Type 0) → List Entry → Fault → Type 0
LacksRoom opens h (faults.Full pages_then pending_then at) =
    (at ≡ length h) × ((opening : List Record) → opens opening → (pages_then ≡ pages (life_log opening h)) × (pending_then ≡ pending (life_log opening h)) × (limit_of (life_log opening h) < pages_then + pending_then + 2))
LacksRoom opens h fault = Unit {0}
