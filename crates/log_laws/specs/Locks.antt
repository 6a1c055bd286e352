-- Laws of held locks, and what they promise of the next write and the next undo.
use Rattle.std.specs.Prelude.{◌≡◌, ◌≢◌, ◌⊎◌, ℕ, map, List, [], ◌∷◌, ◌++◌, is_some, ◌||◌, Bool, true, false, IsTrue}
use Rattle.std.specs.List.{list_any}
use Rattle.std.specs.FinMap as finite
use Rattle.wal_record.specs.OpenWrites.{is_loser, open_writes, key_of, old_of, opens, IsAlone}
use Rattle.wal_record.specs.Contents.{current, given}
use Rattle.wal_record.specs.Sound.{AreLawful}
use Rattle.wal_record.specs.History.{life_log, Live, phase}
use Rattle.wal_record.specs.Locks.{Held, conflict, point_lock, covers_write, locks}
use Rattle.wal_record.specs.Legal.{IsLegal}
use Rattle.wal_record.specs.declared.record.Record.{Record}
use Rattle.wal_record.specs.declared.entry.Entry.{Entry}

pub record EnteringLaw (opening : List Record) (h : List Entry) : Type 0 where
  -- of a key that a transaction has locked for writing, no other one has an open write: so a loser's
  -- key is written by nobody else until the loser's write is undone
  pub alone : AreLawful opening → IsLegal opening h → (tx : ℕ) (key : List ℕ) → list_any (covers_write key) (locks opening h tx) ≡ true → IsAlone (life_log opening h) key tx
  -- the key of a last open write has the value that the write gave it
  pub last_value : AreLawful opening → IsLegal opening h → (t : ℕ) (front : List Record) (w : Record) → open_writes (life_log opening h) t ≡ front ++ w ∷ []
      → finite.get (current (life_log opening h)) (key_of w) ≡ given (old_of w) w
  -- so its undo gives the key a value, or finds one there
  pub can_undo : AreLawful opening → IsLegal opening h → (t : ℕ) (front : List Record) (w : Record) → open_writes (life_log opening h) t ≡ front ++ w ∷ []
      → IsTrue (is_some (old_of w) || is_some (finite.get (current (life_log opening h)) (key_of w)))

-- a lock of one list conflicts with one of the other
abbrev pub meets : List Held → List Held → Bool
meets ls ks = list_any (λ (l : Held). list_any (conflict l) ks) ls

pub record LocksLaw (opening : List Record) (h : List Entry) : Type 0 where
  -- no lock that one transaction holds conflicts with one of another: nothing is held twice in conflict
  pub free : AreLawful opening → IsLegal opening h → (t u : ℕ) → t ≢ u → meets (locks opening h t) (locks opening h u) ≡ false
  -- who has an open write of a key has locked it for writing, losers among them
  pub holds : AreLawful opening → IsLegal opening h → (t : ℕ) (key : List ℕ) → opens (life_log opening h) key t ≡ true → list_any (covers_write key) (locks opening h t) ≡ true

-- who holds a lock is live, or a loser of the opening log
pub record HoldersLaw (opening : List Record) (h : List Entry) : Type 0 where
  pub holder : IsLegal opening h → (t : ℕ) (p : Held → Bool) → list_any p (locks opening h t) ≡ true → (phase h t ≡ Live) ⊎ (is_loser opening t ≡ true)

-- the locks that the losers of a log come back with don't conflict
pub record LoserLocksLaw (log : List Record) : Type 0 where
  pub apart : AreLawful log → (t u : ℕ) → t ≢ u → meets (map point_lock (open_writes log t)) (map point_lock (open_writes log u)) ≡ false
