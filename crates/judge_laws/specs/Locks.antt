-- What the locks that were taken, and the losers of the opening log, tell of a legal history.
use Rattle.std.specs.Prelude.{◌≡◌, ◌↔◌, ℕ, List, None, true}
use Rattle.std.specs.List.{find}
use Rattle.wal_record.specs.History.{Live, is_owner, life_log, phase}
use Rattle.wal_record.specs.Legal.{IsLegal, MayLock, MayRefuse, untold}
use Rattle.wal_record.specs.Locks.{Held, locks, taken_locks}
use Rattle.wal_record.specs.OpenWrites.{losers}
use Rattle.wal_record.specs.Sound.{AreLawful}
use Rattle.wal_record.specs.declared.entry.Entry.{Entry}
use Rattle.wal_record.specs.declared.record.Record.{Record}
use Rattle.loser_laws.specs.Losers.{has_open_in}
use Rattle.lock_judge.specs.Taken.{IsFirstInWay, NoneInWay}

pub record OwnLaw (opening : List Record) (h : List Entry) : Type 0 where
  -- who was begun by a session holds what it took
  pub begun : IsLegal opening h → (session tx : ℕ) → is_owner h session tx ≡ true → locks opening h tx ≡ taken_locks h tx
  pub live : AreLawful opening → IsLegal opening h → (tx : ℕ) → phase h tx ≡ Live → locks opening h tx ≡ taken_locks h tx

pub record LockLaw (opening : List Record) (h : List Entry) : Type 0 where
  pub may : AreLawful opening → IsLegal opening h → untold h ≡ None → (tx : ℕ) (lock : Held) → phase h tx ≡ Live
      → (NoneInWay h tx lock × (find (has_open_in lock.range (life_log opening h)) (losers opening) ≡ None)) ↔ MayLock opening h tx lock

pub record RefuseLaw (opening : List Record) (h : List Entry) : Type 0 where
  pub may : AreLawful opening → IsLegal opening h → untold h ≡ None → (tx : ℕ) (lock : Held) → phase h tx ≡ Live → (holder : ℕ)
      → IsFirstInWay h tx lock holder ↔ MayRefuse opening h tx lock holder
