-- The images of pages on a data device.
use Rattle.std.specs.Prelude.{◌≡◌, ◌≢◌, ◌⊎◌, Some, ℕ, List, Option, take, drop}
use Rattle.sha2.specs.Sha256.{sha256}

-- the first 32 bytes aren't the SHA-256 of the others (FIPS 180-4)
abbrev pub FailsVerification : List ℕ → Type 0
FailsVerification bytes = take 32 bytes ≢ sha256 (drop 32 bytes)

-- no image but those that a read could give before
abbrev pub NoOther : {D : Type 0} → (D → ℕ → List ℕ → Type 0) → D → D → Type 0
NoOther {D} told old new = (p : ℕ) (image : List ℕ) → told new p image → told old p image

-- a read may give what it could give before, and the newest images are the same
pub record SameImages {D : Type 0} (told : D → ℕ → List ℕ → Type 0) (newest : D → ℕ → Option (List ℕ)) (old new : D) : Type 0 where
  pub images : NoOther told old new
  pub last : (p : ℕ) → newest new p ≡ newest old p

-- of one page this image may have been added, and all else is the same
pub record Adds {D : Type 0} (told : D → ℕ → List ℕ → Type 0) (newest : D → ℕ → Option (List ℕ)) (page : ℕ) (image : List ℕ) (old new : D) : Type 0 where
  pub images : (p : ℕ) (i : List ℕ) → told new p i → told old p i ⊎ ((p ≡ page) × (i ≡ image))
  pub last : (newest new page ≡ newest old page) ⊎ (newest new page ≡ Some image)
  pub others : (p : ℕ) → p ≢ page → newest new p ≡ newest old p

-- each spoiled page stays so
abbrev pub Keeps : {D : Type 0} → (D → ℕ → Type 0) → D → D → Type 0
Keeps {D} spoiled old new = (p : ℕ) → spoiled old p → spoiled new p

-- each spoiled page but one stays so
abbrev pub KeepsBut : {D : Type 0} → ℕ → (D → ℕ → Type 0) → D → D → Type 0
KeepsBut {D} page spoiled old new = (p : ℕ) → p ≢ page → spoiled old p → spoiled new p
