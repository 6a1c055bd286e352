-- What locks keep: what a transaction has locked stays while nothing of the transaction is entered.
use Rattle.std.specs.Prelude.{◌≡◌, ◌≢◌, ℕ, List, ◌++◌, ◌&&◌, Bool, true, false}
use Rattle.std.specs.List.{list_any}
use Rattle.std.specs.FinMap as finite
use Rattle.store_model.specs.Range.{Interval, includes, overlap}
use Rattle.store_model.specs.Contents.{pairs_in}
use Rattle.wal_record.specs.OpenWrites.{IsAlone}
use Rattle.wal_record.specs.Contents.{current, committed_contents}
use Rattle.wal_record.specs.Sound.{AreLawful}
use Rattle.wal_record.specs.History.{life_log}
use Rattle.wal_record.specs.Locks.{Held, is_exclusive, covers, covers_key, covers_write, locks}
use Rattle.wal_record.specs.Legal.{IsLegal}
use Rattle.wal_record.specs.declared.record.Record.{Record}
use Rattle.wal_record.specs.declared.entry.Entry.{Entry}
use Rattle.claim_laws.specs.Resting.{Rests}

-- the range lies inside the lock, which is exclusive
abbrev pub covers_all : Interval → Held → Bool
covers_all range l = includes l.range range && is_exclusive l.mode

-- the lock has a key of the range, or may have
abbrev pub touches : Interval → Held → Bool
touches range l = overlap range l.range

-- between two moments of a legal life, while nothing of the transaction is entered
pub record StableLaw (opening : List Record) (h more : List Entry) (t : ℕ) : Type 0 where
  -- a key that it has locked keeps its current value, and its committed one
  pub value : AreLawful opening → IsLegal opening (h ++ more) → Rests t more → (key : List ℕ) → list_any (covers_key key) (locks opening h t) ≡ true
      → finite.get (current (life_log opening (h ++ more))) key ≡ finite.get (current (life_log opening h)) key
  pub committed : AreLawful opening → IsLegal opening (h ++ more) → Rests t more → (key : List ℕ) → list_any (covers_key key) (locks opening h t) ≡ true
      → finite.get (committed_contents (life_log opening (h ++ more))) key ≡ finite.get (committed_contents (life_log opening h)) key
  -- a range that it has locked keeps its pairs
  pub pairs : AreLawful opening → IsLegal opening (h ++ more) → Rests t more → (range : Interval) → list_any (covers range) (locks opening h t) ≡ true
      → pairs_in range (current (life_log opening (h ++ more))) ≡ pairs_in range (current (life_log opening h))
  -- so does each part of one, so a scan may read its leaves one after the other
  pub part : AreLawful opening → IsLegal opening (h ++ more) → Rests t more → (wide range : Interval) → list_any (covers wide) (locks opening h t) ≡ true → includes wide range ≡ true
      → pairs_in range (current (life_log opening (h ++ more))) ≡ pairs_in range (current (life_log opening h))
  -- nobody else has an open write of a key that it has locked
  pub alone : AreLawful opening → IsLegal opening (h ++ more) → Rests t more → (key : List ℕ) → list_any (covers_key key) (locks opening h t) ≡ true
      → IsAlone (life_log opening (h ++ more)) key t
  -- nobody else holds a lock on a key, or on a part of a range, that it has locked exclusively
  pub key_apart : AreLawful opening → IsLegal opening (h ++ more) → Rests t more → (key : List ℕ) → list_any (covers_write key) (locks opening h t) ≡ true
      → (other : ℕ) → other ≢ t → list_any (covers_key key) (locks opening (h ++ more) other) ≡ false
  pub range_apart : AreLawful opening → IsLegal opening (h ++ more) → Rests t more → (range : Interval) → list_any (covers_all range) (locks opening h t) ≡ true
      → (other : ℕ) → other ≢ t → list_any (touches range) (locks opening (h ++ more) other) ≡ false
