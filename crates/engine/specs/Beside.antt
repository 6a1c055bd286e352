-- What a request may enter beside its own entries.
use Rattle.std.specs.Prelude.{◌≡◌, ℕ, List, [], ◌∷◌, ◌++◌, Bool, true, false, ◌==◌, IsTrue}
use Rattle.std.specs.List.{list_any, list_all}
use Rattle.wal_record.specs.OpenWrites.{is_loser}
use Rattle.wal_record.specs.Locks.{Held, conflict, locks}
use Rattle.wal_record.specs.declared.record.Record.{Record}
use Rattle.wal_record.specs.declared.record.Record.TheVariants as kinds
use Rattle.wal_record.specs.declared.entry.Entry.{Entry}
use Rattle.wal_record.specs.declared.entry.Entry.TheVariants as entries
use Rattle.page_ops.specs.Desks.{KeepsFaults}
use Rattle.page_ops.specs.Gains.{Gains}
use Rattle.page_ops.specs.Groups.{Each}
use Rattle.page_ops.specs.Names.{LedgerName}
use Rattle.page_ops.specs.Seeing.{is_upkeep}
use Rattle.rollback.specs.Rolls.{Standing, known_by}

-- a loser of the opening log that still held a lock in conflict with this one
pub record IsInWay (opening : List Record) (h : List Entry) (lock : Held) (t : ℕ) : Type 0 where
  pub loser : is_loser opening t ≡ true
  pub holds : IsTrue (list_any (conflict lock) (locks opening h t))

-- each of them was, of each log with which the life may have begun
abbrev pub AreInWay : (List Record → Type 0) → List Entry → Held → List ℕ → Type 0
AreInWay opens h lock losers = Each (λ t. (opening : List Record) → opens opening → IsInWay opening h lock t) losers

abbrev pub is_one_of : List ℕ → ℕ → Bool
is_one_of losers t = list_any (λ l. t == l) losers

-- the undo and the end of these losers, what keeps the tree up, and what the upkeep of pages enters
abbrev pub is_beside : List ℕ → Entry → Bool
is_beside losers (entries.Rec lsn (kinds.Undo u)) = is_one_of losers u.tx
is_beside losers (entries.Rec lsn (kinds.End e)) = is_one_of losers e.tx
is_beside losers (entries.Rec lsn (kinds.Split s)) = true
is_beside losers (entries.Rec lsn (kinds.Grow g)) = true
is_beside losers (entries.Rec lsn (kinds.Adopt a)) = true
is_beside losers (entries.Rec lsn (kinds.Purge g)) = true
is_beside losers e = is_upkeep e

-- the lock, where it was granted
abbrev pub lock_entries : Bool → ℕ → Held → List Entry
lock_entries true tx lock = entries.Lock tx lock.range lock.mode ∷ []
lock_entries false tx lock = []

-- Calls entered these entries of their own, perhaps with others between: the undo of losers in the way of the lock and what
-- the upkeep of pages enters; then the lock, where it was granted; then what keeps the tree and its pages up; and these
-- last. Faults don't fall.
pub record Serves (opens : List Record → Type 0) (ledger sessions : LedgerName) (tx : ℕ) (lock : Held) (granted : Bool) (last : List Entry) (x y : Standing) : Type 0 where
  pub losers : List ℕ
  pub in_way : AreInWay opens x.seen.log lock losers
  pub before : List Entry
  pub behind : List Entry
  pub gains : Gains opens ledger sessions (before ++ (lock_entries granted tx lock ++ (behind ++ last))) (known_by x) (known_by y)
  pub undone : IsTrue (list_all (is_beside losers) before)
  pub kept_up : IsTrue (list_all (is_beside []) behind)
  pub faults : KeepsFaults x.desk.faults y.desk.faults
