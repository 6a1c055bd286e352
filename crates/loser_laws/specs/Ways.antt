-- What stands in the way of a lock: a loser's locks are read off its open writes.
use Rattle.std.specs.Prelude.{◌≡◌, ◌<◌, ℕ, List, [], Some, None, Bool, true, false, ◌&&◌, ◌||◌}
use Rattle.std.specs.List.{find, list_any}
use Rattle.wal_record.specs.History.{Live, life_log, phase}
use Rattle.wal_record.specs.Legal.{IsLegal}
use Rattle.wal_record.specs.Locks.{Held, conflict, locks, taken_locks}
use Rattle.wal_record.specs.OpenWrites.{is_loser, losers}
use Rattle.wal_record.specs.Sound.{AreLawful}
use Rattle.wal_record.specs.declared.entry.Entry.{Entry}
use Rattle.wal_record.specs.declared.record.Record.{Record}
use Rattle.loser_laws.specs.Losers.{has_open_in}

pub record WaysLaw (opening : List Record) (h : List Entry) : Type 0 where
  -- a lock conflicts with one that was taken, or with the key of a loser's open write, which lies in its range
  pub conflicts : (lock : Held) (t : ℕ) → list_any (conflict lock) (locks opening h t)
      ≡ (list_any (conflict lock) (taken_locks h t) || (is_loser opening t && has_open_in lock.range (life_log opening h) t))
  -- no loser is live, and none has taken a lock
  pub live : AreLawful opening → IsLegal opening h → (t : ℕ) → phase h t ≡ Live → is_loser opening t ≡ false
  pub untaken : AreLawful opening → IsLegal opening h → (t : ℕ) → is_loser opening t ≡ true → taken_locks h t ≡ []

-- the first loser of which a test holds is the least
pub record LeastLaw (log : List Record) (p : ℕ → Bool) : Type 0 where
  pub none : AreLawful log → find p (losers log) ≡ None → (t : ℕ) → is_loser log t ≡ true → p t ≡ false
  pub some : (t : ℕ) → find p (losers log) ≡ Some t → (is_loser log t ≡ true) × (p t ≡ true)
  pub least : AreLawful log → (t : ℕ) → find p (losers log) ≡ Some t → (u : ℕ) → u < t → is_loser log u ≡ true → p u ≡ false
