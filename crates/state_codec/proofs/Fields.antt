-- A field that is read is the field that was written, and what was written is read again.
use Rattle.std.proofs.Common.{◌≡◌, ℕ, ◌+◌, ◌%◌, ◌^◌, ◌<◌, ◌≤◌, Bool, true, false, cond, ltb, List, [], ◌∷◌, ◌++◌, length, get_or, take, drop, Result, Ok, Err, refl, sym, ap, subst, ◌∙◌, append_assoc, arith, inl, inr}
use Rattle.std.specs.Prelude.{IsTrue}
use Rattle.std.specs.Int.{Width, w8, w16, w32, w64, byte_len, from_be_bytes, to_be_bytes}
use Rattle.std.proofs.lemmas.Bool.{cases_lt, ltb-false, le-ltb}
use Rattle.std.proofs.lemmas.List.{take_at, drop_at, take-append-drop, length-append, length-take, get_or-drop, get_or-take, get_or_past}
use Rattle.std.proofs.lemmas.Nat.{be_bytes_2, be_bytes_4, be_bytes_8, from_be_bytes-to_be_bytes_2, from_be_bytes-to_be_bytes_4, from_be_bytes-to_be_bytes_8}
use Rattle.wal_record.specs.Spelling.{number_bytes}
use Rattle.wal_record.specs.Reading.{Read, ◌>>=◌, number_at}

abbrev pub IsBytes : List ℕ → Type 0
IsBytes bytes = (i : ℕ) → get_or bytes i 0 < 256

pub IsBytes-drop : (n : ℕ) (bytes : List ℕ) → IsBytes bytes → IsBytes (drop n bytes)
IsBytes-drop n bytes h i = rw get_or-drop (h (n + i))

pub IsBytes-take : (n : ℕ) (bytes : List ℕ) → IsBytes bytes → IsBytes (take n bytes)
IsBytes-take n bytes h i =
    elim (cases_lt i n) [
      | inl lt ↦ rw (get_or-take n bytes i 0 lt) (h i)
      | inr le ↦ rw (get_or_past (take n bytes) i 0 (omega (arith, length-take n bytes))) (omega arith)
    ]

-- the value of a step that did not fail
pub bind_ok : {A B : Type 0} (r : Result A ℕ) (f : A → Result B ℕ) (y : B) → (r >>= f) ≡ Ok y → (x : A) × (r ≡ Ok x) × (f x ≡ Ok y)
bind_ok (Ok x) f y e = (x, refl, e)
bind_ok (Err d) f y e = absurd cc

-- a test that did not fail
pub guard_ok : {A : Type 0} (b : Bool) (d : ℕ) (r : Result A ℕ) (y : A) → cond b (Err d) r ≡ Ok y → (b ≡ false) × (r ≡ Ok y)
guard_ok true d r y e = absurd cc
guard_ok false d r y e = (refl, e)

pub test_ok : {A : Type 0} (b : Bool) (d : ℕ) (x y : A) → cond b (Ok x) (Err d) ≡ Ok y → (b ≡ true) × (x ≡ y)
test_ok true d x y e = (refl, cc)
test_ok false d x y e = absurd cc

abbrev done_ok : {A : Type 0} → A → Result A ℕ
done_ok x = Ok x

pub ok_is : {A : Type 0} (x y : A) → done_ok x ≡ done_ok y → x ≡ y
ok_is x y e = cc

-- what a reader took from the front
pub record Takes (bytes text rest : List ℕ) : Type 0 where
  pub parts : bytes ≡ text ++ rest
  pub rest_fits : IsBytes rest

pub Takes-then : (a x b y c : List ℕ) → Takes a x b → Takes b y c → Takes a (x ++ y) c
Takes-then a x b y c p q = record { parts = p.parts ∙ ap (λ (t : List ℕ). x ++ t) q.parts ∙ sym (append_assoc x y c); rest_fits = q.rest_fits }

pub Takes-shorter : (a x b : List ℕ) → Takes a x b → length b ≤ length a
Takes-shorter a x b p = omega (arith, ap length p.parts, length-append x b)

-- What is read is spelled so; what is spelled so is read; a fault lies within the bytes.
pub record IsField {A : Type 0} (at : List ℕ → Read A) (spell : A → List ℕ) (Fits : A → Type 0) : Type 0 where
  pub takes : (bytes : List ℕ) (x : A × List ℕ) → IsBytes bytes → at bytes ≡ Ok x → Takes bytes (spell x.0) x.1 × Fits x.0
  pub again : (x : A) (rest : List ℕ) → Fits x → at (spell x ++ rest) ≡ Ok (x, rest)
  pub within : (bytes : List ℕ) (left : ℕ) → IsBytes bytes → at bytes ≡ Err left → left ≤ length bytes

pub err_is : {A : Type 0} (x y : ℕ) → ◌≡◌ {A = Result A ℕ} (Err x) (Err y) → x ≡ y
err_is x y e = cc

-- the step that failed
pub within_bind : {A B : Type 0} (r : Read A) (f : A × List ℕ → Read B) (left n : ℕ) → (r >>= f) ≡ Err left
    → ((d : ℕ) → r ≡ Err d → d ≤ n) → ((x : A × List ℕ) → r ≡ Ok x → f x ≡ Err left → left ≤ n) → left ≤ n
within_bind (Ok x) f left n e h g = g x refl e
within_bind {A} {B} (Err d) f left n e h g = let same : d ≡ left = err_is {A = B × List ℕ} d left e in let le = h d refl in omega arith

-- one field, and then the rest of a record of which this field and those before it are known
pub step : {A R : Type 0} {at : List ℕ → Read A} {spell : A → List ℕ} {Fits : A → Type 0} (field : IsField at spell Fits)
    (get : R → A) (C FitsR Fits_k : R → Type 0) (into : (r : R) → C r → Fits (get r) → FitsR r) (from : (r : R) → C r → FitsR r → Fits (get r))
    (k : A × List ℕ → Read R) (spell_k : R → List ℕ)
    → ((a : A) → Fits a → IsField (λ bytes. k (a, bytes)) spell_k (λ r. (C r × (get r ≡ a)) × Fits_k r))
    → IsField (λ bytes. at bytes >>= k) (λ r. spell (get r) ++ spell_k r) (λ r. C r × (FitsR r × Fits_k r))
step {A} {R} {at} {spell} {Fits} field get C FitsR Fits_k into from k spell_k others = record {
  takes = λ bytes y fits e.
      let b = bind_ok (at bytes) k y e in
      let t = field.takes bytes b.0 fits b.1 in
      let u = (others b.0.0 t.1).takes b.0.1 y t.0.rest_fits b.2 in
      let same : get y.0 ≡ b.0.0 = u.1.0.1 in
      let mine : Fits (get y.0) = subst Fits (sym same) t.1 in
      let text : Takes bytes (spell (get y.0)) b.0.1 = subst (λ (a : A). Takes bytes (spell a) b.0.1) (sym same) t.0 in
      (Takes-then bytes (spell (get y.0)) b.0.1 (spell_k y.0) y.1 text u.0, (u.1.0.0, (into y.0 u.1.0.0 mine, u.1.1)));
  again = λ r rest fits.
      let mine = from r fits.0 fits.1.0 in
      let first : at (spell (get r) ++ (spell_k r ++ rest)) ≡ Ok (get r, spell_k r ++ rest) = field.again (get r) (spell_k r ++ rest) mine in
      let second : k (get r, spell_k r ++ rest) ≡ Ok (r, rest) = (others (get r) mine).again r rest ((fits.0, refl), fits.1.1) in
      ap (λ (t : List ℕ). at t >>= k) (append_assoc (spell (get r)) (spell_k r) rest) ∙ ap (λ (x : Read A). x >>= k) first ∙ second;
  within = λ bytes left fits e.
      within_bind (at bytes) k left (length bytes) e (λ d h. field.within bytes d fits h) (λ x h g.
      let t = field.takes bytes x fits h in
      let shorter = Takes-shorter bytes (spell x.0) x.1 t.0 in
      let le = (others x.0 t.1).within x.1 left t.0.rest_fits g in
      omega arith);
}

-- nothing is left to read
pub done : {R : Type 0} (made : R) (C : R → Type 0) → C made → ((r : R) → C r → made ≡ r) → IsField (λ bytes. Ok (made, bytes)) (λ r. []) (λ r. C r × Unit {0})
done {R} made C is only = record {
  takes = λ bytes y fits e. subst (λ (z : R × List ℕ). Takes bytes [] z.1 × (C z.0 × Unit {0})) (ok_is (made, bytes) y e) (record { parts = refl; rest_fits = fits }, (is, tt));
  again = λ r rest fits. ap (λ (x : R). done_ok (x, rest)) (only r fits.0);
  within = λ bytes left fits e. absurd cc;
}

pub respelled : {A : Type 0} {at : List ℕ → Read A} {spell spell' : A → List ℕ} {Fits Fits' : A → Type 0} → IsField at spell Fits
    → ((x : A) → spell x ≡ spell' x) → ((x : A) → Fits x → Fits' x) → ((x : A) → Fits' x → Fits x) → IsField at spell' Fits'
respelled {A} {at} field same into from = record {
  takes = λ bytes x fits e. let t = field.takes bytes x fits e in (subst (λ (s : List ℕ). Takes bytes s x.1) (same x.0) t.0, into x.0 t.1);
  again = λ x rest fits. ap (λ (s : List ℕ). at (s ++ rest)) (sym (same x)) ∙ field.again x rest (from x fits);
  within = field.within;
}

-- ---- numbers

pub record IsWide (w : Width) (limit : ℕ) : Type 0 where
  pub len : (n : ℕ) → length (to_be_bytes w n) ≡ byte_len w
  pub back : (bytes : List ℕ) → length bytes ≡ byte_len w → IsBytes bytes → to_be_bytes w (from_be_bytes w bytes) ≡ bytes
  pub again : (n : ℕ) → n < limit → from_be_bytes w (to_be_bytes w n) ≡ n
  pub below : (bytes : List ℕ) → IsBytes bytes → from_be_bytes w bytes < limit

back_1 : (bytes : List ℕ) → length bytes ≡ 1 → IsBytes bytes → to_be_bytes w8 (from_be_bytes w8 bytes) ≡ bytes
back_1 [] len fits = absurd (omega arith)
back_1 (b ∷ []) len fits = let same : b % 256 ≡ b = omega (arith, fits 0) in ap (λ (n : ℕ). n ∷ []) same
back_1 (b ∷ c ∷ bytes) len fits = absurd (omega arith)

pub wide8 : IsWide w8 (2 ^ 8)
wide8 = record {
  len = λ n. refl;
  back = back_1;
  again = λ n lt. omega arith;
  below = λ bytes fits. omega (arith, fits 0);
}

pub wide16 : IsWide w16 (2 ^ 16)
wide16 = record {
  len = λ n. refl;
  back = λ bytes len fits. be_bytes_2 bytes _ len fits refl;
  again = λ n lt. from_be_bytes-to_be_bytes_2 n lt;
  below = λ bytes fits. omega (arith, fits 0, fits 1);
}

pub wide32 : IsWide w32 (2 ^ 32)
wide32 = record {
  len = λ n. refl;
  back = λ bytes len fits. be_bytes_4 bytes _ len fits refl;
  again = λ n lt. from_be_bytes-to_be_bytes_4 n lt;
  below = λ bytes fits. omega (arith, fits 0, fits 1, fits 2, fits 3);
}

pub wide64 : IsWide w64 (2 ^ 64)
wide64 = record {
  len = λ n. refl;
  back = λ bytes len fits. be_bytes_8 bytes _ len fits refl;
  again = λ n lt. from_be_bytes-to_be_bytes_8 n lt;
  below = λ bytes fits. omega (arith, fits 0, fits 1, fits 2, fits 3, fits 4, fits 5, fits 6, fits 7);
}

pub within_guards : {A : Type 0} (a b : Bool) (n left : ℕ) (x : A) → cond a (Err n) (cond b (Ok x) (Err n)) ≡ Err left → left ≤ n
within_guards {A} true b n left x e = let same : n ≡ left = err_is {A = A} n left e in omega arith
within_guards {A} false true n left x e = absurd cc
within_guards {A} false false n left x e = let same : n ≡ left = err_is {A = A} n left e in omega arith

pub number_field : (w : Width) (limit : ℕ) (wide : IsWide w limit) (rule : ℕ → Bool) (Fits : ℕ → Type 0) → ((n : ℕ) → n < limit → IsTrue (rule n) → Fits n) → ((n : ℕ) → Fits n → IsTrue (rule n) × (n < limit))
    → IsField (number_at w rule) (number_bytes w) Fits
unfolding number_at number_bytes
number_field w limit wide rule Fits into from = record {
  takes = λ bytes x fits e.
      let front = from_be_bytes w (take (byte_len w) bytes) in
      let g = guard_ok (ltb (length bytes) (byte_len w)) (length bytes) (cond (rule front) (Ok (front, drop (byte_len w) bytes)) (Err (length bytes))) x e in
      let t = test_ok (rule front) (length bytes) (front, drop (byte_len w) bytes) x g.1 in
      let long : byte_len w ≤ length bytes = ltb-false _ _ g.0 in
      let front_fits = IsBytes-take (byte_len w) bytes fits in
      let back : to_be_bytes w front ≡ take (byte_len w) bytes = wide.back (take (byte_len w) bytes) (omega (arith, length-take (byte_len w) bytes)) front_fits in
      let parts : bytes ≡ to_be_bytes w front ++ drop (byte_len w) bytes = rw back (sym (take-append-drop (byte_len w) bytes)) in
      subst (λ (y : ℕ × List ℕ). Takes bytes (to_be_bytes w y.0) y.1 × Fits y.0) t.1
      (record { parts = parts; rest_fits = IsBytes-drop (byte_len w) bytes fits }, into front (wide.below (take (byte_len w) bytes) front_fits) t.0);
  again = λ n rest fits.
      let len = wide.len n in
      let long : ltb (length (to_be_bytes w n ++ rest)) (byte_len w) ≡ false = le-ltb _ _ (omega (arith, length-append (to_be_bytes w n) rest)) in
      rw (long, take_at (to_be_bytes w n) rest (byte_len w) len, drop_at (to_be_bytes w n) rest (byte_len w) len, wide.again n (from n fits).1, (from n fits).0) refl;
  within = λ bytes left fits e. within_guards _ _ (length bytes) left _ e;
}
