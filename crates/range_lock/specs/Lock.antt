-- Locks on ranges of keys, and which of them conflict (Gray, Lorie, Putzolu and Traiger 1976).
use Rattle.std.specs.Prelude.{◌≡◌, ℕ, List, [], ◌∷◌, Bool, true, false, not, ◌&&◌, ◌||◌, ◌==◌, ◌⊎◌}
use Rattle.store_model.specs.Range.{Interval, overlap, includes}
use Rattle.store_model.specs.declared.range.Mode.{Mode}
use Rattle.store_model.specs.declared.range.Mode.TheVariants.{Shared, Exclusive}

-- the transaction tx holds the range in this mode
pub record Lock : Type 0 where
  pub tx : ℕ
  pub range : Interval
  pub mode : Mode

abbrev pub is_exclusive : Mode → Bool
is_exclusive Shared = false
is_exclusive Exclusive = true

-- the lock keeps others off this range in this mode: the ranges overlap and one of the two is exclusive
abbrev pub bars : Interval → Mode → Lock → Bool
bars range mode l = overlap range l.range && (is_exclusive mode || is_exclusive l.mode)

-- locks of two transactions conflict where their ranges overlap and one is exclusive
abbrev pub conflict : Lock → Lock → Bool
conflict a l = not (l.tx == a.tx) && bars a.range a.mode l

-- the lock covers the range in this mode: it includes the range, and an exclusive one covers shared use too
abbrev pub covers : Lock → Interval → Mode → Bool
covers l range mode = includes l.range range && (is_exclusive l.mode || not (is_exclusive mode))

-- x is one of them
abbrev pub IsAmong : {A : Type 0} → A → List A → Type 0
IsAmong x [] = ⊥
IsAmong x (y ∷ ys) = (x ≡ y) ⊎ IsAmong x ys

abbrev pub AreCompatible : List Lock → Type 0
AreCompatible ls = (a b : Lock) → IsAmong a ls → IsAmong b ls → conflict a b ≡ false
