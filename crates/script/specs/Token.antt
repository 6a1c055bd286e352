-- Tokens: words that stand for bytes. A byte 21 to 7E (in hexadecimal) other than the percent sign stands for itself,
-- the percent sign and two lower-case hexadecimal digits for the byte of that value, and the percent sign alone for the
-- empty text.
use Rattle.std.specs.Prelude.{ℕ, ◌+◌, ◌*◌, ◌%◌, ◌-◌, List, [], ◌∷◌, ◌++◌, fold, Option, Some, None, Bool, nat_lt, nat_le, ◌==◌, ◌&&◌, not, if◌then◌else◌}
use Rattle.script.specs.Name.{is_digit}
use Rattle.script.specs.Word.{same_text}
use Rattle.script.specs.declared.token.Expects.{Expects}
use Rattle.script.specs.declared.token.Expects.TheVariants.{Plain, First, Second, Nothing}

abbrev pub is_plain : ℕ → Bool
is_plain b = nat_lt 32 b && nat_lt b 127 && not (b == 37)

-- the value of a hexadecimal digit
abbrev pub hex : ℕ → Option ℕ
hex b = if is_digit b then Some (b - 48) else (if nat_le 97 b && nat_le b 102 then Some (b - 87) else None)

-- the bytes so far, and what may come next
pub record Decoding : Type 0 where
  pub out : List ℕ
  pub expects : Expects

abbrev pub first_digit : List ℕ → Option ℕ → Decoding
first_digit out None = record { out = out; expects = Nothing }
first_digit out (Some high) = record { out = out; expects = Second high }

abbrev pub second_digit : List ℕ → ℕ → Option ℕ → Decoding
second_digit out high None = record { out = out; expects = Nothing }
second_digit out high (Some low) = record { out = out ++ ((16 * high + low) % 256) ∷ []; expects = Plain }

abbrev pub decode_by : Expects → List ℕ → ℕ → Decoding
decode_by Plain out b = if b == 37 then record { out = out; expects = First } else (if is_plain b then record { out = out ++ b ∷ []; expects = Plain } else record { out = out; expects = Nothing })
decode_by First out b = first_digit out (hex b)
decode_by (Second high) out b = second_digit out high (hex b)
decode_by Nothing out b = record { out = out; expects = Nothing }

abbrev pub decode_step : Decoding → ℕ → Decoding
decode_step d b = decode_by d.expects d.out b

abbrev pub ended : Expects → List ℕ → Option (List ℕ)
ended Plain out = Some out
ended First out = None
ended (Second high) out = None
ended Nothing out = None

abbrev pub start : Decoding
start = record { out = []; expects = Plain }

-- the bytes that a token stands for
unfoldable pub decoded : List ℕ → Option (List ℕ)
decoded token = if same_text token [] then None else (if same_text token (37 ∷ []) then Some [] else (let d = fold decode_step start token in ended d.expects d.out))
