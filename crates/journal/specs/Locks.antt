-- The locks of a life, and what holds them: a table those that were taken, the log those of losers.
use Rattle.std.specs.Prelude.{◌≡◌, ◌≢◌, ℕ, ◌↔◌, List, Option, true, false}
use Rattle.std.specs.List.{find}
use Rattle.range_lock.specs.Held.{Holds}
use Rattle.loser_laws.specs.Losers.{has_open_in, txs_of}
use Rattle.losers.specs.declared.losers.LoserState.{LoserState}
use Rattle.range_lock.specs.Lock.{Lock, IsAmong, conflict}
use Rattle.store_model.specs.Range.{Interval}
use Rattle.range_lock.specs.declared.range_locks.RangeLocks.{RangeLocks}
use Rattle.wal_record.specs.History.{Committed, phase}
use Rattle.wal_record.specs.Legal.{held}
use Rattle.wal_record.specs.Locks.{taken_locks}
use Rattle.wal_record.specs.declared.record.Record.{Record}
use Rattle.wal_record.specs.declared.entry.Entry.{Entry}

-- the table holds exactly the locks that were taken and not released
abbrev pub AreHeld : List Entry → RangeLocks → Type 0
AreHeld h t = (l : Lock) → Holds t l ↔ IsAmong (held l.range l.mode) (taken_locks h l.tx)

-- the first of these losers that has an open write of a key in the range
abbrev pub first_in : Interval → List Record → List LoserState → Option ℕ
first_in range log xs = find (has_open_in range log) (txs_of xs)

-- another transaction has taken a lock that conflicts with this one
abbrev pub IsBarred : RangeLocks → Lock → Type 0
IsBarred t a = (l : Lock) × Holds t l × (conflict a l ≡ true)

abbrev pub IsFree : RangeLocks → Lock → Type 0
IsFree t a = (l : Lock) → Holds t l → conflict a l ≡ false

-- no commit waits for its acknowledgement
abbrev pub AreAcknowledged : List Entry → Type 0
AreAcknowledged h = (t : ℕ) → phase h t ≢ Committed
