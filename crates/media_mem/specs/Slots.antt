-- The pages that a data device in memory keeps.
use Rattle.std.specs.Prelude.{◌≡◌, ◌⊎◌, ℕ, zero, suc, List, [], ◌∷◌, Bool, true, Option, None}

-- the image of a page, if it was written, and whether it was spoiled since
pub record Paged : Type 0 where
  pub image : Option (List ℕ)
  pub spoiled : Bool

pub record MemPaged : Type 0 where
  pub slots : List Paged
  pub faults : ℕ

abbrev pub newest_in : List Paged → ℕ → Option (List ℕ)
newest_in [] p = None
newest_in (s ∷ ss) zero = s.image
newest_in (s ∷ ss) (suc p) = newest_in ss p

-- a read gives no image
abbrev pub IsLost : Paged → Type 0
IsLost s = (s.image ≡ None) ⊎ (s.spoiled ≡ true)

abbrev pub IsSpoiled : List Paged → ℕ → Type 0
IsSpoiled [] p = Unit {0}
IsSpoiled (s ∷ ss) zero = IsLost s
IsSpoiled (s ∷ ss) (suc p) = IsSpoiled ss p
