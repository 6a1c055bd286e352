-- Lists that are seen as sets.
use Rattle.std.specs.Prelude.{◌≡◌, List, ◌↔◌, ◌⊎◌}
use Rattle.range_lock.specs.Lock.{IsAmong}

module _ {A : Type 0} where
  -- the same are among both
  abbrev pub HasTheSame : List A → List A → Type 0
  HasTheSame old new = (x : A) → IsAmong x new ↔ IsAmong x old

  -- this one joins them
  abbrev pub Adds : List A → List A → A → Type 0
  Adds old new k = (x : A) → IsAmong x new ↔ ((x ≡ k) ⊎ IsAmong x old)

  -- this one is none of them any more
  abbrev pub Removes : List A → List A → A → Type 0
  Removes old new k = (x : A) → IsAmong x new ↔ ((x ≡ k → ⊥) × IsAmong x old)
