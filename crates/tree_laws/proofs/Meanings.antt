-- What an operator makes is a value.
use Rattle.std.proofs.Common.{◌≡◌, ◌<◌, ◌+◌, ◌^◌, ℕ, zero, suc, Bool, true, false, cond, List, [], ◌++◌, length, Option, Some, None, refl, nat_eq, nat_lt, nat_le, ltb-true, arith}
use Rattle.std.specs.Prelude.{max, option_and_then, unwrap_or}
use Rattle.std.specs.Option.{option_map}
use Rattle.std.specs.Cmp.Lexicographic.{pointwise}
use Rattle.std.specs.Fmt.{decimal}
use Rattle.std.specs.Str.Parse.{digits_value}
use Rattle.std.proofs.lemmas.Bool.Decides.{nat_tests}
use Rattle.std.proofs.lemmas.Fmt.{length-decimal-le}
use Rattle.store_model.specs.Operator.{number_of, sum_of, meaning}
use Rattle.wal_record.specs.State.{is_value}
use Rattle.wal_record.specs.Rules.{is_maybe_value}

-- a decimal below 2 ^ 64 has at most 20 digits
decimal_fits : (n : ℕ) → n < 2 ^ 64 → is_value (decimal n) ≡ true
decimal_fits n h = let d = length-decimal-le 20 n (omega arith) (omega (arith, h)) h in grind (arith, nat_tests)

abbrev IsSmall : Option ℕ → Type 0
IsSmall None = Unit {0}
IsSmall (Some n) = n < 2 ^ 64

small_if : (p q : Bool) (n : ℕ) → nat_lt n (2 ^ 64) ≡ q → IsSmall (cond p (cond q (Some n) None) None)
small_if true true n e = ltb-true n (2 ^ 64) e
small_if true false n e = tt
small_if false q n e = tt

number_small : (text : List ℕ) → IsSmall (number_of text)
number_small text = small_if (pointwise (λ a b. nat_eq a b) (decimal (digits_value 10 text)) text) (nat_lt (digits_value 10 text) (2 ^ 64)) (digits_value 10 text) refl

sum_fits : (a b : ℕ) (q : Bool) → nat_lt (a + b) (2 ^ 64) ≡ q → is_maybe_value (cond q (Some (decimal (a + b))) None) ≡ true
sum_fits a b true e = decimal_fits (a + b) (ltb-true (a + b) (2 ^ 64) e)
sum_fits a b false e = refl

added : (x y : Option ℕ) → is_maybe_value (option_and_then (λ a. option_and_then (λ b. sum_of a b) y) x) ≡ true
added None y = refl
added (Some a) None = refl
added (Some a) (Some b) = sum_fits a b (nat_lt (a + b) (2 ^ 64)) refl

max_small : (a b : ℕ) → a < 2 ^ 64 → b < 2 ^ 64 → max a b < 2 ^ 64
max_small a b h g = omega (arith, h, g)

greater : (x y : Option ℕ) → IsSmall x → IsSmall y → is_maybe_value (option_and_then (λ a. option_map (λ b. decimal (max a b)) y) x) ≡ true
greater None y h g = refl
greater (Some a) None h g = refl
greater (Some a) (Some b) h g = decimal_fits (max a b) (max_small a b h g)

short_fits : (text : List ℕ) (q : Bool) → nat_le (length text) 64 ≡ q → is_maybe_value (cond q (Some text) None) ≡ true
short_fits text true e = grind (arith, nat_tests)
short_fits text false e = refl

pub meaning_fits : (operator : ℕ) (old : Option (List ℕ)) (argument : List ℕ) → is_maybe_value (meaning operator old argument) ≡ true
meaning_fits zero old argument = refl
meaning_fits (suc zero) old argument = added (number_of (unwrap_or old (decimal 0))) (number_of argument)
meaning_fits (suc (suc zero)) old argument = greater (number_of (unwrap_or old (decimal 0))) (number_of argument) (number_small (unwrap_or old (decimal 0))) (number_small argument)
meaning_fits (suc (suc (suc zero))) old argument = short_fits (unwrap_or old [] ++ argument) (nat_le (length (unwrap_or old [] ++ argument)) 64) refl
meaning_fits (suc (suc (suc (suc n)))) old argument = refl
