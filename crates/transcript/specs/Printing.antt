-- How texts are printed.
use Rattle.std.specs.Prelude.{ℕ, ◌+◌, ◌/◌, ◌%◌, List, [], ◌∷◌, ◌++◌, Option, Some, None, nat_lt, if◌then◌else◌, codes}
use Rattle.std.specs.List.{flat_map}
use Rattle.script.specs.Token.{is_plain}

-- the digit of a number below 16
abbrev pub digit : ℕ → ℕ
digit n = if nat_lt n 10 then 48 + n else 87 + n

-- a byte that doesn't stand for itself is printed as an escape
abbrev pub escaped_byte : ℕ → List ℕ
escaped_byte b = if is_plain b then b ∷ [] else 37 ∷ digit (b / 16) ∷ digit (b % 16) ∷ []

-- a text as a token
unfoldable pub escaped : List ℕ → List ℕ
escaped [] = 37 ∷ []
escaped (b ∷ bs) = flat_map escaped_byte (b ∷ bs)

-- a value behind the head of its line
abbrev pub shown : Option (List ℕ) → List ℕ
shown None = codes " none"
shown (Some v) = codes " = " ++ escaped v
