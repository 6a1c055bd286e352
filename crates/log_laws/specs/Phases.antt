-- What the phases of transactions mean, and whose steps are whose.
use Rattle.std.specs.Prelude.{◌≡◌, ℕ, List, [], ◌∷◌, Bool, true, false, ◌==◌}
use Rattle.std.specs.List.{list_any}
use Rattle.wal_record.specs.Chains.{finishes}
use Rattle.wal_record.specs.Sound.{AreLawful}
use Rattle.wal_record.specs.History.{log_of, Live, phase}
use Rattle.wal_record.specs.Steps.{Finished, steps, committed_transactions}
use Rattle.wal_record.specs.Legal.{IsLegal}
use Rattle.wal_record.specs.declared.record.Record.{Record}
use Rattle.wal_record.specs.declared.entry.Entry.{Entry}
use Rattle.wal_record.specs.declared.entry.Entry.TheVariants.{Began}

abbrev pub begins : ℕ → Entry → Bool
begins t (Began session tx) = tx == t
begins t _ = false

-- a transaction is live where it was begun and has neither a commit nor an end, and nowhere else
pub record LiveLaw (opening : List Record) (h : List Entry) : Type 0 where
  pub live : AreLawful opening → IsLegal opening h → (t : ℕ) → phase h t ≡ Live → (list_any (begins t) h ≡ true) × (list_any (finishes t) (log_of h) ≡ false)
  pub only : AreLawful opening → IsLegal opening h → (t : ℕ) → list_any (begins t) h ≡ true → list_any (finishes t) (log_of h) ≡ false → phase h t ≡ Live

abbrev pub EachHas : List Entry → List Finished → Type 0
EachHas h [] = Unit {0}
EachHas h (f ∷ fs) = (f.steps ≡ steps h f.tx) × EachHas h fs

-- a committed transaction has all the steps that it has in the history: none follows its commit
pub record StepsLaw (opening : List Record) (h : List Entry) : Type 0 where
  pub all : AreLawful opening → IsLegal opening h → EachHas h (committed_transactions h)
