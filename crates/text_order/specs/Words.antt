-- The first bytes of a text as a number.
use Rattle.std.specs.Prelude.{ℕ, zero, suc, ◌+◌, ◌*◌, ◌^◌, List, [], ◌∷◌}

-- the number that the first n bytes make, the first one greatest; zeros stand for those that lack
abbrev pub word : ℕ → List ℕ → ℕ
word zero text = 0
word (suc n) [] = 0
word (suc n) (x ∷ text) = x * 256 ^ n + word n text
