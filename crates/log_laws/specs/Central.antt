-- The central law: how the current and the committed contents of a log agree.
use Rattle.std.specs.Prelude.{◌≡◌, ℕ, List, ◌∷◌, fold, filter, true, false}
use Rattle.std.specs.FinMap as finite
use Rattle.wal_record.specs.OpenWrites.{open_writes, opens, writes, old_of}
use Rattle.wal_record.specs.Contents.{current, committed_contents, given}
use Rattle.wal_record.specs.Sound.{AreLawful}
use Rattle.wal_record.specs.History.{life_log}
use Rattle.wal_record.specs.Legal.{IsLegal}
use Rattle.wal_record.specs.declared.record.Record.{Record}
use Rattle.wal_record.specs.declared.entry.Entry.{Entry}

-- of a key, and a transaction that has an open write of it
pub record IsOpenBy (log : List Record) (key : List ℕ) (t : ℕ) : Type 0 where
  -- the first of its open writes of the key, and the others
  pub first : Record
  pub rest : List Record
  pub own : filter (writes key) (open_writes log t) ≡ first ∷ rest
  -- what the first one found is the committed value
  pub committed : finite.get (committed_contents log) key ≡ old_of first
  -- and the current value is what all of them make of it
  pub current : finite.get (current log) key ≡ fold given (old_of first) (first ∷ rest)

-- how the current and the committed contents of a log agree
pub record Agree (log : List Record) : Type 0 where
  -- at a key that no transaction has an open write of they are the same
  pub closed : (key : List ℕ) → ((t : ℕ) → opens log key t ≡ false) → finite.get (current log) key ≡ finite.get (committed_contents log) key
  -- at a key that one has an open write of they differ by its writes alone
  pub open_by : (key : List ℕ) (t : ℕ) → opens log key t ≡ true → IsOpenBy log key t
  -- and no other one has
  pub alone : (key : List ℕ) (t u : ℕ) → opens log key t ≡ true → opens log key u ≡ true → t ≡ u

abbrev pub CentralLaw : List Record → Type 0
CentralLaw log = AreLawful log → Agree log

-- at every moment of a legal life
abbrev pub CentralLawOfLives : List Record → List Entry → Type 0
CentralLawOfLives opening h = AreLawful opening → IsLegal opening h → Agree (life_log opening h)
