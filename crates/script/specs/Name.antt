-- Names of transactions.
use Rattle.std.specs.Prelude.{ℕ, List, [], ◌∷◌, length, Option, Some, None, Bool, false, nat_le, ◌&&◌, ◌||◌, if◌then◌else◌}
use Rattle.std.specs.List.{list_all}

abbrev pub is_letter : ℕ → Bool
is_letter b = (nat_le 65 b && nat_le b 90) || (nat_le 97 b && nat_le b 122)

abbrev pub is_digit : ℕ → Bool
is_digit b = nat_le 48 b && nat_le b 57

-- a letter or a digit
abbrev pub is_sign : ℕ → Bool
is_sign b = is_letter b || is_digit b

abbrev pub begins_with_letter : List ℕ → Bool
begins_with_letter [] = false
begins_with_letter (b ∷ bs) = is_letter b

-- a letter, and up to 15 letters or digits
unfoldable pub is_name : List ℕ → Bool
is_name word = begins_with_letter word && list_all is_sign word && nat_le (length word) 16

abbrev pub name_of : List ℕ → Option (List ℕ)
name_of word = if is_name word then Some word else None
