-- The locks that transactions hold: strict two-phase locks on ranges of keys (Gray, Lorie, Putzolu and
-- Traiger 1976), and those of losers, which come back with the keys of their open writes.
use Rattle.std.specs.Prelude.{ℕ, List, [], ◌∷◌, ◌++◌, map, Bool, true, false, ◌&&◌, ◌||◌, ◌==◌, if◌then◌else◌}
use Rattle.std.specs.List.{list_any}
use Rattle.store_model.specs.Along.{along}
use Rattle.store_model.specs.Range.{Interval, has_key, overlap, includes, point}
use Rattle.store_model.specs.declared.range.Mode.{Mode}
use Rattle.store_model.specs.declared.range.Mode.TheVariants.{Shared, Exclusive}
use Rattle.wal_record.specs.OpenWrites.{key_of, open_writes, is_loser}
use Rattle.wal_record.specs.History.{life_log, phase, is_live}
use Rattle.wal_record.specs.declared.record.Record.{Record}
use Rattle.wal_record.specs.declared.record.Record.TheVariants as kinds
use Rattle.wal_record.specs.declared.entry.Entry.{Entry}
use Rattle.wal_record.specs.declared.entry.Entry.TheVariants.{Rec, Lock}

pub record Held : Type 0 where
  pub range : Interval
  pub mode : Mode

abbrev pub locks_step : ℕ → List Held → Entry → List Held
locks_step t ls (Lock tx range mode) = if tx == t then record { range = range; mode = mode } ∷ ls else ls
locks_step t ls (Rec lsn (kinds.Commit c)) = if c.tx == t then [] else ls
locks_step t ls (Rec lsn (kinds.End e)) = if e.tx == t then [] else ls
locks_step t ls _ = ls

-- the locks that a transaction took and still holds: all until its commit or end
unfoldable pub taken_locks : List Entry → ℕ → List Held
taken_locks h t = along (λ before ls e. locks_step t ls e) [] h

abbrev pub point_lock : Record → Held
point_lock r = record { range = point (key_of r); mode = Exclusive }

-- a loser of the opening log holds the key of each open write
abbrev pub loser_locks : Bool → List Record → List Held
loser_locks true ws = map point_lock ws
loser_locks false ws = []

-- the held locks of a transaction
unfoldable pub locks : List Record → List Entry → ℕ → List Held
locks opening h t = taken_locks h t ++ loser_locks (is_loser opening t) (open_writes (life_log opening h) t)

abbrev pub is_exclusive : Mode → Bool
is_exclusive Shared = false
is_exclusive Exclusive = true

-- two locks conflict where their ranges overlap and one is exclusive
abbrev pub conflict : Held → Held → Bool
conflict a b = overlap a.range b.range && (is_exclusive a.mode || is_exclusive b.mode)

-- the range lies inside the lock
abbrev pub covers : Interval → Held → Bool
covers r l = includes l.range r

-- the key lies in the lock
abbrev pub covers_key : List ℕ → Held → Bool
covers_key key l = has_key l.range key

-- the key may be written under the lock
abbrev pub covers_write : List ℕ → Held → Bool
covers_write key l = has_key l.range key && is_exclusive l.mode

-- a live transaction holds a lock that conflicts with this one
abbrev pub blocks : List Record → List Entry → Held → ℕ → Bool
blocks opening h l t = is_live (phase h t) && list_any (conflict l) (locks opening h t)
