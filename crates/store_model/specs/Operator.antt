-- What the three operators make of a key's value and an argument: 1 adds, 2 keeps the greater, 3 appends.
use Rattle.std.specs.Prelude.{ℕ, ◌+◌, ◌^◌, nat_lt, nat_le, ◌==◌, List, [], ◌++◌, length, Option, Some, None, if◌then◌else◌, unwrap_or, zero, suc, max, option_and_then}
use Rattle.std.specs.Option.{option_map}
use Rattle.std.specs.Cmp.Lexicographic.{pointwise}
use Rattle.std.specs.Fmt.{decimal}
use Rattle.std.specs.Str.Parse.{digits_value}

-- the number that a text spells in decimal without leading zeros, if it is below 2 ^ 64
abbrev pub number_of : List ℕ → Option ℕ
number_of text =
    let n = digits_value 10 text in
    if pointwise (λ a b. a == b) (decimal n) text then (if nat_lt n (2 ^ 64) then Some n else None) else None

-- the sum, if it is below 2 ^ 64
abbrev pub sum_of : ℕ → ℕ → Option (List ℕ)
sum_of a b = if nat_lt (a + b) (2 ^ 64) then Some (decimal (a + b)) else None

-- the text, if it has at most 64 bytes
abbrev pub short : List ℕ → Option (List ℕ)
short text = if nat_le (length text) 64 then Some text else None

-- the new value, if the operator gives one: to add and max a key without a value is 0, to join it is empty
abbrev pub meaning : ℕ → Option (List ℕ) → List ℕ → Option (List ℕ)
meaning (suc zero) old argument = option_and_then (λ a. option_and_then (λ b. sum_of a b) (number_of argument)) (number_of (unwrap_or old (decimal 0)))
meaning (suc (suc zero)) old argument = option_and_then (λ a. option_map (λ b. decimal (max a b)) (number_of argument)) (number_of (unwrap_or old (decimal 0)))
meaning (suc (suc (suc zero))) old argument = short (unwrap_or old [] ++ argument)
meaning operator old argument = None
