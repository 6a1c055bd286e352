-- Tokens whose bytes stand for themselves.
use Rattle.std.proofs.Common.{◌≡◌, ◌≤◌, ℕ, arith, true, false, List, [], ◌∷◌, ◌++◌, length, Some, sym, ap, ◌∙◌, append_assoc, append-nil}
use Rattle.std.specs.Prelude.{fold, nat_lt, ◌==◌, ◌&&◌, not}
use Rattle.std.specs.List.{list_all}
use Rattle.store_model.proofs.Bools.{both_true, not_true}
use Rattle.script.specs.Token.{is_plain, Decoding, decode_step, decode_by, decoded}
use Rattle.script.specs.declared.token.Expects.TheVariants.{Plain}

abbrev at : List ℕ → Decoding
at out = record { out = out; expects = Plain }

is_no_sign : (b : ℕ) → is_plain b ≡ true → (b == 37) ≡ false
is_no_sign b is = not_true (b == 37) (both_true (nat_lt 32 b && nat_lt b 127) (not (b == 37)) is).1

one_plain : (out : List ℕ) (b : ℕ) → is_plain b ≡ true → decode_by Plain out b ≡ at (out ++ b ∷ [])
one_plain out b is = rw (is_no_sign b is, (both_true (nat_lt 32 b && nat_lt b 127) (not (b == 37)) is).0)

all_bytes : (bytes out : List ℕ) → list_all is_plain bytes ≡ true → fold decode_step (at out) bytes ≡ at (out ++ bytes)
all_bytes [] out all = ap at (sym (append-nil out))
all_bytes (b ∷ bs) out all =
    let parts = both_true (is_plain b) (list_all is_plain bs) all in
    ap (λ d. fold decode_step d bs) (one_plain out b parts.0)
    ∙ all_bytes bs (out ++ b ∷ []) parts.1
    ∙ ap at (append_assoc out (b ∷ []) bs)

-- a token of plain bytes stands for itself
pub itself : (token : List ℕ) → 1 ≤ length token → list_all is_plain token ≡ true → decoded token ≡ Some token
unfolding decoded
itself [] some all = grind arith
itself (b ∷ bs) some all =
    let parts = both_true (is_plain b) (list_all is_plain bs) all in
    rw (is_no_sign b parts.0, all_bytes (b ∷ bs) [] all)
