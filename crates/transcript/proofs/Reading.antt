-- A token that was printed is read as the bytes that it was printed from.
use Rattle.std.proofs.Common.{◌≡◌, ℕ, ◌+◌, ◌*◌, ◌/◌, ◌%◌, ◌<◌, Bool, true, false, cond, List, [], ◌∷◌, ◌++◌, Some, refl, sym, ap, ◌∙◌, arith, append_assoc, append-nil}
use Rattle.std.specs.Prelude.{fold, nat_lt, ◌==◌, ◌&&◌, not, ◌^◌}
use Rattle.std.specs.List.{All, flat_map}
use Rattle.std.proofs.lemmas.List.Elements.{All-head, All-tail}
use Rattle.std.proofs.lemmas.List.Sums.{fold-append}
use Rattle.std.proofs.lemmas.Bool.Decides.{nat_tests}
use Rattle.store_model.proofs.Bools.{both_true, not_true}
use Rattle.script.specs.Word.{same_text}
use Rattle.script.specs.Token.{is_plain, hex, Decoding, decode_step, decode_by, first_digit, second_digit, decoded}
use Rattle.script.specs.declared.token.Expects.TheVariants.{Plain}
use Rattle.transcript.specs.Printing.{digit, escaped_byte, escaped}
use Rattle.transcript.specs.Reading.{TokenLaw}

-- the digit of a number below 16 is read as that number
hex_digit : (n : ℕ) → n < 16 → hex (digit n) ≡ Some n
hex_digit n small = grind (arith, nat_tests)

abbrev at : List ℕ → Decoding
at out = record { out = out; expects = Plain }

halves : (b : ℕ) → b < 2 ^ 8 → (16 * (b / 16) + b % 16) % 256 ≡ b
halves b small = omega (arith, small)

-- a byte that is printed is read as itself, behind all that was read
one_plain : (out : List ℕ) (b : ℕ) → is_plain b ≡ true → decode_by Plain out b ≡ at (out ++ b ∷ [])
one_plain out b is =
    let parts = both_true (nat_lt 32 b && nat_lt b 127) (not (b == 37)) is in
    let other : (b == 37) ≡ false = not_true (b == 37) parts.1 in
    rw (other, parts.0)

one_escaped : (out : List ℕ) (b : ℕ) → b < 2 ^ 8 → fold decode_step (at out) (37 ∷ digit (b / 16) ∷ digit (b % 16) ∷ []) ≡ at (out ++ b ∷ [])
one_escaped out b small =
    let high = hex_digit (b / 16) (omega (arith, small)) in
    let low = hex_digit (b % 16) (omega arith) in
    ap (λ h. decode_step (first_digit out h) (digit (b % 16))) high ∙ ap (second_digit out (b / 16)) low ∙ ap (λ x. at (out ++ x ∷ [])) (halves b small)

one_byte : (out : List ℕ) (b : ℕ) → b < 2 ^ 8 → fold decode_step (at out) (escaped_byte b) ≡ at (out ++ b ∷ [])
one_byte out b small = by (is_plain b) refl
  where
    by : (plain : Bool) → is_plain b ≡ plain → fold decode_step (at out) (cond plain (b ∷ []) (37 ∷ digit (b / 16) ∷ digit (b % 16) ∷ [])) ≡ at (out ++ b ∷ [])
    by true is = one_plain out b is
    by false is = one_escaped out b small

all_bytes : (bytes out : List ℕ) → All (λ b. b < 2 ^ 8) bytes → fold decode_step (at out) (flat_map escaped_byte bytes) ≡ at (out ++ bytes)
all_bytes [] out small = ap at (sym (append-nil out))
all_bytes (b ∷ bs) out small =
    fold-append decode_step (at out) (escaped_byte b) (flat_map escaped_byte bs)
    ∙ ap (λ d. fold decode_step d (flat_map escaped_byte bs)) (one_byte out b (All-head (λ b. b < 2 ^ 8) b bs small))
    ∙ all_bytes bs (out ++ b ∷ []) (All-tail (λ b. b < 2 ^ 8) b bs small)
    ∙ ap at (append_assoc out (b ∷ []) bs)

-- a byte is printed as more than nothing, and not as the percent sign alone
not_empty : (b : ℕ) (more : List ℕ) → same_text (escaped_byte b ++ more) [] ≡ false
not_empty b more = by (is_plain b)
  where
    by : (plain : Bool) → same_text (cond plain (b ∷ []) (37 ∷ digit (b / 16) ∷ digit (b % 16) ∷ []) ++ more) [] ≡ false
    by true = refl
    by false = refl

not_alone : (b : ℕ) (more : List ℕ) → same_text (escaped_byte b ++ more) (37 ∷ []) ≡ false
not_alone b more = by (is_plain b) refl
  where
    by : (plain : Bool) → is_plain b ≡ plain → same_text (cond plain (b ∷ []) (37 ∷ digit (b / 16) ∷ digit (b % 16) ∷ []) ++ more) (37 ∷ []) ≡ false
    by true is = let parts = both_true (nat_lt 32 b && nat_lt b 127) (not (b == 37)) is in rw (not_true (b == 37) parts.1)
    by false is = refl

pub token_law : (bytes : List ℕ) → TokenLaw bytes
unfolding escaped decoded
token_law [] small = refl
token_law (b ∷ bs) small = rw (not_empty b (flat_map escaped_byte bs), not_alone b (flat_map escaped_byte bs), all_bytes (b ∷ bs) [] small)
