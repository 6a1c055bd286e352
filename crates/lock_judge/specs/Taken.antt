-- The locks that were taken, as they are kept.
use Rattle.std.specs.Prelude.{◌≡◌, ◌≢◌, ℕ, ◌<◌, ◌==◌, List, [], unwrap_or, Bool, true, false, if◌then◌else◌}
use Rattle.std.specs.List.{list_any}
use Rattle.std.specs.Ordering.{nat_cmp}
use Rattle.std.specs.BTreeMap.{BTreeMap, get}
use Rattle.wal_record.specs.Locks.{Held, conflict, locks_step, taken_locks}
use Rattle.wal_record.specs.declared.entry.Entry.{Entry}
use Rattle.lock_judge.specs.declared.taken.TakenLocks.{TakenLocks}

-- the locks of a transaction
abbrev pub held_in : BTreeMap ℕ (List Held) → ℕ → List Held
held_in m t = unwrap_or (get nat_cmp m t) []

-- each transaction has the locks that it took in the history and still holds, in any order
unfoldable pub AreTaken : List Entry → TakenLocks → Type 0
AreTaken h x = (t : ℕ) (p : Held → Bool) → list_any p (held_in x.held t) ≡ list_any p (taken_locks h t)

-- the least other transaction that took a lock in conflict with this one
pub record IsFirstInWay (h : List Entry) (tx : ℕ) (lock : Held) (t : ℕ) : Type 0 where
  pub other : t ≢ tx
  pub conflicts : list_any (conflict lock) (taken_locks h t) ≡ true
  pub least : (o : ℕ) → o ≢ tx → o < t → list_any (conflict lock) (taken_locks h o) ≡ false

-- no other one took any
abbrev pub NoneInWay : List Entry → ℕ → Held → Type 0
NoneInWay h tx lock = (o : ℕ) → o ≢ tx → list_any (conflict lock) (taken_locks h o) ≡ false

-- by the entry the locks of the transaction go, and no others
abbrev pub IsRelease : ℕ → Entry → Type 0
IsRelease tx e = (t : ℕ) (ls : List Held) → locks_step t ls e ≡ (if tx == t then [] else ls)
