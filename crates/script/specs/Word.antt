-- Words of a line: one space stands between two.
use Rattle.std.specs.Prelude.{ℕ, ◌+◌, List, Option, Some, None, Bool, ◌==◌, take, drop, position}
use Rattle.std.specs.Cmp.Lexicographic.{pointwise}

abbrev pub is_space : ℕ → Bool
is_space b = b == 32

-- the text before a place, or all of it
abbrev pub before : List ℕ → Option ℕ → List ℕ
before text None = text
before text (Some i) = take i text

-- the text behind a place, if there is one
abbrev pub after : List ℕ → Option ℕ → Option (List ℕ)
after text None = None
after text (Some i) = Some (drop (i + 1) text)

-- the text up to the first space
unfoldable pub word : List ℕ → List ℕ
word text = before text (position is_space text)

-- what stands behind the first space
unfoldable pub behind : List ℕ → Option (List ℕ)
behind text = after text (position is_space text)

abbrev pub same_text : List ℕ → List ℕ → Bool
same_text a b = pointwise (λ x y. x == y) a b
