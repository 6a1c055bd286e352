-- What is said of a list from its beginning, with the items before each item in sight.
use Rattle.std.specs.Prelude.{List, [], ◌∷◌, ◌++◌}

module _ {A S : Type 0} where
  abbrev pub along_from : (List A → S → A → S) → List A → S → List A → S
  along_from step before s [] = s
  along_from step before s (x ∷ xs) = along_from step (before ++ x ∷ []) (step before s x) xs

  -- the state after the items: each step sees the items before it, the state they led to, and the item
  unfoldable pub along : (List A → S → A → S) → S → List A → S
  along step s xs = along_from step [] s xs

module _ {A : Type 0} where
  abbrev pub AllFrom : (List A → A → Type 0) → List A → List A → Type 0
  AllFrom P before [] = Unit {0}
  AllFrom P before (x ∷ xs) = P before x × AllFrom P (before ++ x ∷ []) xs

  -- P holds of each item after those before it
  unfoldable pub AllAlong : (List A → A → Type 0) → List A → Type 0
  AllAlong P xs = AllFrom P [] xs
