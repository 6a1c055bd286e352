-- What `get_one` reads of a number.
use Rattle.std.proofs.Common.{◌≡◌, ℕ, Bool, true, false, List, Option, Some, None, Result, Ok, Err, refl, sym, ap, arith, if◌then◌else◌, ◌∙◌}
use Rattle.std.specs.Str.Parse.{ParsesUnsigned, digits_value, without_leading_plus}
use Rattle.std.specs.Prelude.{option_and_then}
use Rattle.clap.specs.Matches.{ReadsOne}
use Rattle.clap.specs.Words.{one_text, rows_of}
use Rattle.clap.specs.declared.parser.matches.Found.{Found}
use Rattle.clap.proofs.WalkLemmas.{one_text-rows}
use Rattle.clap.specs.ValueTests.{accepts}
use Rattle.clap.specs.declared.builder.value_parser.ValueParser.TheVariants.{Unsigned}
use Rattle.clap.proofs.ValueTestLemmas.{Accepts-accepts, accepts-Accepts}
use Rattle.call_words.specs.Calls.{number_in, number_of}

-- a text that was read as a number of 64 bits
pub read-number_in : (E : Type 0) (G : List ℕ → Result ℕ E → Type 0) (text : List ℕ) (read : Option ℕ)
    → ((u : List ℕ) (x : Result ℕ E) → G u x → ParsesUnsigned 64 10 u x) → ReadsOne G text read
    → read ≡ number_in text
read-number_in E G text read only h = go (accepts false (Unsigned 0 18446744073709551615) text) refl read h
  where
    go : (b : Bool) → accepts false (Unsigned 0 18446744073709551615) text ≡ b → (o : Option ℕ) → ReadsOne G text o
        → o ≡ (if b then Some (digits_value 10 (without_leading_plus text)) else None)
    go true is (Some n) h = ap Some (only text (Ok n) h).1
    go true is None h =
        let taken = accepts-Accepts false (Unsigned 0 18446744073709551615) text is in
        absurd (only text (Err h.0) h.1 (taken.0, taken.1))
    go false is (Some n) h =
        let parts = (only text (Ok n) h).0 in
        let taken : accepts false (Unsigned 0 18446744073709551615) text ≡ true =
        Accepts-accepts false (Unsigned 0 18446744073709551615) text (parts.0, parts.1, omega arith, omega (arith, parts.1)) in
        let bad : false ≡ true = sym is ∙ taken in
        cc
    go false is None h = refl

-- what `get_one` read of an argument
pub get_one-number_of : (E : Type 0) (G : List ℕ → Result ℕ E → Type 0) (name : List ℕ) (found : Found) (read : Option ℕ)
    → ((u : List ℕ) (x : Result ℕ E) → G u x → ParsesUnsigned 64 10 u x)
    → (one_text found name ≡ None → read ≡ None) → ((t : List ℕ) → one_text found name ≡ Some t → ReadsOne G t read)
    → read ≡ number_of name (rows_of found)
get_one-number_of E G name found read only none value =
    go (one_text found name) refl ∙ ap (option_and_then number_in) (one_text-rows found name)
  where
    go : (o : Option (List ℕ)) → one_text found name ≡ o → read ≡ option_and_then number_in (one_text found name)
    go None is = rw is (none is)
    go (Some text) is = rw is (read-number_in E G text read only (value text is))
