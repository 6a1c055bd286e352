-- The step law.
use Rattle.std.proofs.Common.{◌≡◌, ℕ, zero, suc, ◌+◌, ◌*◌, ◌^◌, ◌<◌, ◌≤◌, Bool, true, false, cond, List, [], ◌∷◌, length, Option, refl, ap, arith, Less, Equal, Greater, nat_lt, nat_eq, ltb-true, eqb-true}
use Rattle.std.specs.List.{All}
use Rattle.std.specs.Ordering.{nat_cmp, is_lt, ordering_then}
use Rattle.std.specs.Cmp.Lexicographic.{slice_cmp}
use Rattle.std.proofs.Math.Nat.{suc-mul, mul-le-mul_right}
use Rattle.wal_record.specs.State.{text_of}
use Rattle.wal_record.specs.declared.page.PageState.{PageState}
use Rattle.foster_laws.specs.Steps.{texts, place, texts_left, TextsLaw, StepLaw}

abbrev AreBytes : List ℕ → Type 0
AreBytes t = All (λ b. b < 2 ^ 8) t

first_byte : (b : ℕ) (t : List ℕ) → AreBytes (b ∷ t) → b < 2 ^ 8
first_byte b t h = h 0 b (omega arith)

other_bytes : (b : ℕ) (t : List ℕ) → AreBytes (b ∷ t) → AreBytes t
other_bytes b t h = λ k d lt. h (suc k) d (omega (arith, lt))

some_texts : (n : ℕ) → 1 ≤ texts n
unfolding texts
some_texts zero = omega arith
some_texts (suc n) = let r = some_texts n in omega (arith, r)

-- one digit more
digit : (b p : ℕ) → b < 2 ^ 8 → (b + 1) * p + p ≤ 257 * p
digit b p h =
    let e = suc-mul (b + 1) p in
    let l : suc (b + 1) * p ≤ 257 * p = mul-le-mul_right p (omega (arith, h)) in
    omega (arith, e, l)

digit_less : (a b p : ℕ) → a < b → (a + 1) * p + p ≤ (b + 1) * p
digit_less a b p h =
    let e = suc-mul (a + 1) p in
    let l : suc (a + 1) * p ≤ (b + 1) * p = mul-le-mul_right p (omega (arith, h)) in
    omega (arith, e, l)

place_most : (n : ℕ) (t : List ℕ) → AreBytes t → place n t < texts n
unfolding place texts
place_most zero t h = omega arith
place_most (suc n) [] h = let r = some_texts n in omega (arith, r)
place_most (suc n) (b ∷ t) h =
    let r = place_most n t (other_bytes b t h) in
    let d = digit b (texts n) (first_byte b t h) in
    omega (arith, r, d)

place_less : (n : ℕ) (a b : List ℕ) → length a ≤ n → length b ≤ n → AreBytes a → is_lt (slice_cmp nat_cmp a b) ≡ true → place n a < place n b
unfolding place texts
place_less zero [] [] la lb h lt = absurd cc
place_less zero [] (y ∷ b) la lb h lt = absurd (omega (arith, lb))
place_less zero (x ∷ a) b la lb h lt = absurd (omega (arith, la))
place_less (suc n) [] [] la lb h lt = absurd cc
place_less (suc n) [] (y ∷ b) la lb h lt =
    let r = some_texts n in
    let e = suc-mul y (texts n) in
    omega (arith, r, e)
place_less (suc n) (x ∷ a) [] la lb h lt = absurd cc
place_less (suc n) (x ∷ a) (y ∷ b) la lb h lt = by (nat_lt x y) refl (nat_eq x y) refl lt (place_less n a b (omega (arith, la)) (omega (arith, lb)) (other_bytes x a h)) (place_most n a (other_bytes x a h))
  where
    by : (l : Bool) → nat_lt x y ≡ l → (e : Bool) → nat_eq x y ≡ e → is_lt (ordering_then (cond l Less (cond e Equal Greater)) (slice_cmp nat_cmp a b)) ≡ true
        → (is_lt (slice_cmp nat_cmp a b) ≡ true → place n a < place n b) → place n a < texts n
        → (x + 1) * texts n + place n a < (y + 1) * texts n + place n b
    by true p e q t rest most = let d = digit_less x y (texts n) (ltb-true x y p) in omega (arith, d, most)
    by false p true q t rest most =
        let same : (x + 1) * texts n ≡ (y + 1) * texts n = ap (λ (k : ℕ). (k + 1) * texts n) (eqb-true x y q) in
        let r = rest t in
        omega (arith, same, r)
    by false p false q t rest most = absurd cc

pub texts_law : (a b : List ℕ) → TextsLaw a b
texts_law a b = record {
  less = λ ha hb lt.
      let l = place_less 64 a b ha.most hb.most ha.bytes lt in
      let m = place_most 64 b hb.bytes in
      omega (arith, l, m);
}

child_less : (l m a b c : ℕ) → l + 1 ≡ m → a ≤ c → l * suc c + a < m * suc c + b
child_less l m a b c e h =
    let x = suc-mul l (suc c) in
    let y : suc l * suc c ≡ m * suc c = ap (λ (k : ℕ). k * suc c) (omega (arith, e)) in
    omega (arith, x, y, h)

pub step_law : (s t : PageState) → StepLaw s t
step_law s t = record {
  child = λ e. child_less t.level s.level (texts_left (text_of t.low)) (texts_left (text_of s.low)) (texts 64) e (omega arith);
  foster = λ e low key is is' ha hb lt.
      let x : t.level * suc (texts 64) ≡ s.level * suc (texts 64) = ap (λ (k : ℕ). k * suc (texts 64)) e in
      let y : texts_left key < texts_left low = (texts_law low key).less ha hb lt in
      let a : texts_left (text_of s.low) ≡ texts_left low = ap (λ (b : Option (List ℕ)). texts_left (text_of b)) is in
      let b : texts_left (text_of t.low) ≡ texts_left key = ap (λ (b : Option (List ℕ)). texts_left (text_of b)) is' in
      omega (arith, x, y, a, b);
}
