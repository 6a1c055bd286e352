-- Texts that stand one behind the other.
use Rattle.std.specs.Prelude.{ℕ, List, [], ◌∷◌, take, drop}

-- texts of these lengths
unfoldable pub cut_into : List ℕ → List ℕ → List (List ℕ)
cut_into [] bytes = []
cut_into (n ∷ ns) bytes = take n bytes ∷ cut_into ns (drop n bytes)

-- what stands behind them
unfoldable pub behind : List ℕ → List ℕ → List ℕ
behind [] bytes = bytes
behind (n ∷ ns) bytes = behind ns (drop n bytes)
