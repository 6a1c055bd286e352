-- Numbers under a rule: what is read, that a fault lies within the bytes, and that they are fields.
use Rattle.std.proofs.Common.{◌≡◌, ℕ, ◌^◌, ◌<◌, ◌≤◌, Bool, true, cond, eqb, ltb, List, length, take, drop, Ok, Err, refl, sym, subst, arith}
use Rattle.std.specs.Prelude.{IsTrue}
use Rattle.std.specs.Int.{Width, w32, w64, byte_len, from_be_bytes}
use Rattle.std.proofs.lemmas.Bool.{ltb-false}
use Rattle.std.proofs.lemmas.Bool.Decides.{nat_tests}
use Rattle.wal_record.specs.Spelling.{number_bytes}
use Rattle.wal_record.specs.Reading.{number_at}
use Rattle.state_codec.proofs.Fields.{IsField, guard_ok, test_ok, within_guards, number_field, wide32, wide64}
use Rattle.vault_objects.specs.Fields.{is_this}

pub number_ok : (w : Width) (rule : ℕ → Bool) (bytes : List ℕ) (x : ℕ × List ℕ) → number_at w rule bytes ≡ Ok x → (rule x.0 ≡ true) × (x ≡ (from_be_bytes w (take (byte_len w) bytes), drop (byte_len w) bytes)) × (byte_len w ≤ length bytes)
unfolding number_at
number_ok w rule bytes x e =
    let front : ℕ = from_be_bytes w (take (byte_len w) bytes) in
    let rest : List ℕ = drop (byte_len w) bytes in
    let g = guard_ok (ltb (length bytes) (byte_len w)) (length bytes) (cond (rule front) (Ok (front, rest)) (Err (length bytes))) x e in
    let t = test_ok (rule front) (length bytes) (front, rest) x g.1 in
    (subst (λ (y : ℕ × List ℕ). rule y.0 ≡ true) t.1 t.0, sym t.1, ltb-false _ _ g.0)

pub number_within : (w : Width) (rule : ℕ → Bool) (bytes : List ℕ) (left : ℕ) → number_at w rule bytes ≡ Err left → left ≤ length bytes
unfolding number_at
number_within w rule bytes left e = within_guards _ _ (length bytes) left _ e

abbrev pub FitsIn : ℕ → (ℕ → Bool) → ℕ → Type 0
FitsIn limit rule n = IsTrue (rule n) × (n < limit)

pub number32 : (rule : ℕ → Bool) → IsField (number_at w32 rule) (number_bytes w32) (FitsIn (2 ^ 32) rule)
number32 rule = number_field w32 (2 ^ 32) wide32 rule (FitsIn (2 ^ 32) rule) (λ n lt h. (h, lt)) (λ n h. h)

pub number64 : (rule : ℕ → Bool) → IsField (number_at w64 rule) (number_bytes w64) (FitsIn (2 ^ 64) rule)
number64 rule = number_field w64 (2 ^ 64) wide64 rule (FitsIn (2 ^ 64) rule) (λ n lt h. (h, lt)) (λ n h. h)

pub eq_is : (m n : ℕ) → eqb m n ≡ true → m ≡ n
eq_is m n h = grind (arith, nat_tests)

pub is_eq : (m n : ℕ) → m ≡ n → eqb m n ≡ true
is_eq m n h = grind (arith, nat_tests)

pub is_same : (n : ℕ) → IsTrue (is_this n n)
is_same n = is_eq n n refl
