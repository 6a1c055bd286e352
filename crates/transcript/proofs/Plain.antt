-- Bytes that stand for themselves.
use Rattle.std.proofs.Common.{◌≡◌, ℕ, true, List, [], ◌∷◌, refl}
use Rattle.std.specs.List.{list_all, flat_map}
use Rattle.store_model.proofs.Bools.{both_true}
use Rattle.script.specs.Token.{is_plain}
use Rattle.transcript.specs.Printing.{escaped_byte}

one_byte : (b : ℕ) → is_plain b ≡ true → escaped_byte b ≡ b ∷ []
one_byte b is = rw is refl

-- plain bytes are printed as they are
pub as_they_are : (bytes : List ℕ) → list_all is_plain bytes ≡ true → flat_map escaped_byte bytes ≡ bytes
as_they_are [] all = refl
as_they_are (b ∷ bs) all =
    let parts = both_true (is_plain b) (list_all is_plain bs) all in
    rw (one_byte b parts.0, as_they_are bs parts.1) refl
