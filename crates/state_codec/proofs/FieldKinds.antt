-- Each kind of field: numbers under a rule, texts, values, what may be absent, and fields that keep one rule more.
use Rattle.std.proofs.Common.{◌≡◌, ℕ, zero, suc, ◌^◌, ◌<◌, ◌≤◌, Bool, true, false, cond, ltb, leb, List, [], ◌∷◌, ◌++◌, length, take, drop, Option, Some, None, Ok, Err, refl, sym, ap, subst, ◌∙◌, append_assoc, arith}
use Rattle.std.specs.Prelude.{IsTrue, ◌&&◌}
use Rattle.std.specs.Int.{w8, w16, w32, w64, from_be_bytes, to_be_bytes}
use Rattle.std.proofs.lemmas.Bool.{ltb-false, le-ltb}
use Rattle.std.proofs.lemmas.Bool.Decides.{nat_tests}
use Rattle.std.proofs.lemmas.List.{take_at, drop_at, take-append-drop, length-append, length-take}
use Rattle.std.proofs.lemmas.Nat.{be_bytes_2, from_be_bytes-to_be_bytes_2}
use Rattle.store_model.proofs.Bools.{both_true}
use Rattle.wal_record.specs.State.{is_text, is_key, is_value, is_child}
use Rattle.wal_record.specs.Rules.{is_number, is_lsn_or_none, is_next, is_page, is_limit, is_u8, is_u32, is_u64, is_maybe_value, is_change}
use Rattle.wal_record.specs.Spelling.{number_bytes, text_bytes, value_bytes, maybe_bytes}
use Rattle.wal_record.specs.Reading.{Read, ◌>>=◌, kept, as_field, any_number, number_at, text_at, key_at, value_at, maybe_at, maybe_value_at, new_value_at}
use Rattle.state_codec.proofs.Fields.{IsField, IsBytes, IsBytes-drop, IsBytes-take, Takes, bind_ok, guard_ok, test_ok, ok_is, err_is, respelled, number_field, within_guards, wide8, wide32, wide64}

-- ---- numbers whose rule bounds them

is_number_below : (n : ℕ) → IsTrue (is_number n) → n < 2 ^ 64
is_number_below n h = grind (arith, nat_tests)

pub a_number : IsField (number_at w64 is_number) (number_bytes w64) (λ n. IsTrue (is_number n))
a_number = number_field w64 (2 ^ 64) wide64 is_number (λ n. IsTrue (is_number n)) (λ n lt h. h) (λ n h. (h, is_number_below n h))

is_lsn_or_none_below : (n : ℕ) → IsTrue (is_lsn_or_none n) → n < 2 ^ 64
is_lsn_or_none_below n h = grind (arith, nat_tests)

pub an_lsn_or_none : IsField (number_at w64 is_lsn_or_none) (number_bytes w64) (λ n. IsTrue (is_lsn_or_none n))
an_lsn_or_none = number_field w64 (2 ^ 64) wide64 is_lsn_or_none (λ n. IsTrue (is_lsn_or_none n)) (λ n lt h. h) (λ n h. (h, is_lsn_or_none_below n h))

is_next_below : (n : ℕ) → IsTrue (is_next n) → n < 2 ^ 64
is_next_below n h = grind (arith, nat_tests)

pub a_next : IsField (number_at w64 is_next) (number_bytes w64) (λ n. IsTrue (is_next n))
a_next = number_field w64 (2 ^ 64) wide64 is_next (λ n. IsTrue (is_next n)) (λ n lt h. h) (λ n h. (h, is_next_below n h))

is_page_below : (n : ℕ) → IsTrue (is_page n) → n < 2 ^ 32
is_page_below n h = grind (arith, nat_tests)

pub a_page : IsField (number_at w32 is_page) (number_bytes w32) (λ n. IsTrue (is_page n))
a_page = number_field w32 (2 ^ 32) wide32 is_page (λ n. IsTrue (is_page n)) (λ n lt h. h) (λ n h. (h, is_page_below n h))

is_child_below : (n : ℕ) → IsTrue (is_child n) → n < 2 ^ 32
is_child_below n h = grind (arith, nat_tests)

pub a_child : IsField (number_at w32 is_child) (number_bytes w32) (λ n. IsTrue (is_child n))
a_child = number_field w32 (2 ^ 32) wide32 is_child (λ n. IsTrue (is_child n)) (λ n lt h. h) (λ n h. (h, is_child_below n h))

is_limit_below : (n : ℕ) → IsTrue (is_limit n) → n < 2 ^ 32
is_limit_below n h = grind (arith, nat_tests)

pub a_limit : IsField (number_at w32 is_limit) (number_bytes w32) (λ n. IsTrue (is_limit n))
a_limit = number_field w32 (2 ^ 32) wide32 is_limit (λ n. IsTrue (is_limit n)) (λ n lt h. h) (λ n h. (h, is_limit_below n h))

pub lt_true : (m n : ℕ) → ltb m n ≡ true → m < n
lt_true m n h = grind (arith, nat_tests)

pub lt_is_true : (m n : ℕ) → m < n → ltb m n ≡ true
lt_is_true m n h = grind (arith, nat_tests)

-- ---- numbers that have no rule but their width

pub a_u8 : IsField (number_at w8 any_number) (number_bytes w8) (λ n. IsTrue (is_u8 n))
a_u8 = number_field w8 (2 ^ 8) wide8 any_number (λ n. IsTrue (is_u8 n)) (λ n lt h. lt_is_true n (2 ^ 8) lt) (λ n h. (refl, lt_true n (2 ^ 8) h))

pub a_u32 : IsField (number_at w32 any_number) (number_bytes w32) (λ n. IsTrue (is_u32 n))
a_u32 = number_field w32 (2 ^ 32) wide32 any_number (λ n. IsTrue (is_u32 n)) (λ n lt h. lt_is_true n (2 ^ 32) lt) (λ n h. (refl, lt_true n (2 ^ 32) h))

pub a_u64 : IsField (number_at w64 any_number) (number_bytes w64) (λ n. IsTrue (is_u64 n))
a_u64 = number_field w64 (2 ^ 64) wide64 any_number (λ n. IsTrue (is_u64 n)) (λ n lt h. lt_is_true n (2 ^ 64) lt) (λ n h. (refl, lt_true n (2 ^ 64) h))

-- ---- texts

within_test : {A : Type 0} (b : Bool) (n left : ℕ) (x : A) → cond b (Ok x) (Err n) ≡ Err left → left ≤ n
within_test {A} true n left x e = absurd cc
within_test {A} false n left x e = let same : n ≡ left = err_is {A = A} n left e in omega arith

le_true : (m n : ℕ) → leb m n ≡ true → m ≤ n
le_true m n h = grind (arith, nat_tests)

le_is_true : (m n : ℕ) → m ≤ n → leb m n ≡ true
le_is_true m n h = grind (arith, nat_tests)

pub text_field : (rule : List ℕ → Bool) → IsField (text_at rule) text_bytes (λ t. IsTrue (rule t))
unfolding text_at text_bytes
text_field rule = record {
  takes = takes;
  again = λ t rest fits.
      let room : leb (length t) (length (t ++ rest)) ≡ true = le_is_true _ _ (omega (arith, length-append t rest)) in
      rw (take_at t rest (length t) refl, drop_at t rest (length t) refl, room, fits) refl;
  within = within;
}
  where
    takes : (bytes : List ℕ) (x : List ℕ × List ℕ) → IsBytes bytes → text_at rule bytes ≡ Ok x → Takes bytes (text_bytes x.0) x.1 × IsTrue (rule x.0)
    takes [] x fits e = absurd cc
    takes (len ∷ rest) x fits e =
        let t = test_ok (leb len (length rest) && rule (take len rest)) (suc (length rest)) (take len rest, drop len rest) x e in
        let both = both_true (leb len (length rest)) (rule (take len rest)) t.0 in
        let long = le_true len (length rest) both.0 in
        let size : length (take len rest) ≡ len = omega (arith, length-take len rest) in
        let parts : len ∷ rest ≡ (length (take len rest) ∷ take len rest) ++ drop len rest = rw size (ap (λ (t : List ℕ). len ∷ t) (sym (take-append-drop len rest))) in
        subst (λ (y : List ℕ × List ℕ). Takes (len ∷ rest) (text_bytes y.0) y.1 × IsTrue (rule y.0)) t.1 (record { parts = parts; rest_fits = λ i. IsBytes-drop len rest (λ j. fits (suc j)) i }, both.1)

    within : (bytes : List ℕ) (left : ℕ) → IsBytes bytes → text_at rule bytes ≡ Err left → left ≤ length bytes
    within [] left fits e = let same : 0 ≡ left = err_is {A = List ℕ × List ℕ} 0 left e in omega arith
    within (len ∷ rest) left fits e = within_test _ _ left _ e

pub a_key : IsField key_at text_bytes (λ k. IsTrue (is_key k))
a_key = text_field is_key

pub an_argument : IsField (text_at is_text) text_bytes (λ t. IsTrue (is_text t))
an_argument = text_field is_text

-- ---- values

pub a_value : IsField value_at value_bytes (λ v. IsTrue (is_value v))
unfolding value_at value_bytes
a_value = record { takes = takes; again = again; within = within }
  where
    takes : (bytes : List ℕ) (x : List ℕ × List ℕ) → IsBytes bytes → value_at bytes ≡ Ok x → Takes bytes (value_bytes x.0) x.1 × IsTrue (is_value x.0)
    takes bytes x fits e =
        let len = from_be_bytes w16 (take 2 bytes) in
        let rest = drop 2 bytes in
        let g = guard_ok (ltb (length bytes) 2) (length bytes) (cond (leb len (length rest) && is_value (take len rest)) (Ok (take len rest, drop len rest)) (Err (length bytes))) x e in
        let t = test_ok (leb len (length rest) && is_value (take len rest)) (length bytes) (take len rest, drop len rest) x g.1 in
        let both = both_true (leb len (length rest)) (is_value (take len rest)) t.0 in
        let long = le_true len (length rest) both.0 in
        let two : 2 ≤ length bytes = ltb-false _ _ g.0 in
        let size : length (take len rest) ≡ len = omega (arith, length-take len rest) in
        let back : to_be_bytes w16 len ≡ take 2 bytes = be_bytes_2 (take 2 bytes) len (omega (arith, length-take 2 bytes)) (IsBytes-take 2 bytes fits) refl in
        let parts : bytes ≡ (to_be_bytes w16 (length (take len rest)) ++ take len rest) ++ drop len rest =
        sym (take-append-drop 2 bytes) ∙ ap (λ (t : List ℕ). take 2 bytes ++ t) (sym (take-append-drop len rest))
        ∙ ap (λ (t : List ℕ). t ++ (take len rest ++ drop len rest)) (sym back) ∙ sym (append_assoc (to_be_bytes w16 len) (take len rest) (drop len rest))
        ∙ ap (λ (n : ℕ). (to_be_bytes w16 n ++ take len rest) ++ drop len rest) (sym size) in
        subst (λ (y : List ℕ × List ℕ). Takes bytes (value_bytes y.0) y.1 × IsTrue (is_value y.0)) t.1 (record { parts = parts; rest_fits = IsBytes-drop len rest (IsBytes-drop 2 bytes fits) }, both.1)

    again : (v rest : List ℕ) → IsTrue (is_value v) → value_at (value_bytes v ++ rest) ≡ Ok (v, rest)
    again v rest fits =
        let small : length v ≤ 256 = le_true _ _ fits in
        let back : from_be_bytes w16 (to_be_bytes w16 (length v)) ≡ length v = from_be_bytes-to_be_bytes_2 (length v) (omega arith) in
        let room : leb (length v) (length (v ++ rest)) ≡ true = le_is_true _ _ (omega (arith, length-append v rest)) in
        let long : ltb (suc (suc (length (v ++ rest)))) 2 ≡ false = le-ltb _ _ (omega arith) in
        rw (back, take_at v rest (length v) refl, drop_at v rest (length v) refl, room, fits, long) refl

    within : (bytes : List ℕ) (left : ℕ) → IsBytes bytes → value_at bytes ≡ Err left → left ≤ length bytes
    within bytes left fits e = within_guards _ _ (length bytes) left _ e

-- ---- what may be absent

module _ {A : Type 0} where
  abbrev pub FitsIfThere : (A → Type 0) → Option A → Type 0
  FitsIfThere Fits None = Unit {0}
  FitsIfThere Fits (Some x) = Fits x

  field_ok : (bytes : List ℕ) (r : Read A) (y : A × List ℕ) → as_field bytes r ≡ Ok y → r ≡ Ok y
  field_ok bytes (Ok x) y e = e
  field_ok bytes (Err left) y e = absurd cc

  field_err : (bytes : List ℕ) (r : Read A) (f : A × List ℕ → Read (Option A)) (left : ℕ) → ((x : A × List ℕ) → f x ≡ Err left → ⊥) → (as_field bytes r >>= f) ≡ Err left → left ≤ length bytes
  field_err bytes (Ok x) f left never e = absurd (never x e)
  field_err bytes (Err d) f left never e = let same : length bytes ≡ left = err_is {A = Option A × List ℕ} (length bytes) left e in omega arith

  no_err : (x : A × List ℕ) (left : ℕ) → ◌≡◌ {A = Read (Option A)} (Ok (Some x.0, x.1)) (Err left) → ⊥
  no_err x left e = absurd cc

  pub maybe_field : {at : List ℕ → Read A} {spell : A → List ℕ} {Fits : A → Type 0} → IsField at spell Fits → IsField (maybe_at at) (maybe_bytes spell) (FitsIfThere Fits)
  unfolding maybe_at maybe_bytes
  maybe_field {at} {spell} {Fits} field = record { takes = takes; again = again; within = within }
    where
      takes : (bytes : List ℕ) (x : Option A × List ℕ) → IsBytes bytes → maybe_at at bytes ≡ Ok x → Takes bytes (maybe_bytes spell x.0) x.1 × FitsIfThere Fits x.0
      takes [] x fits e = absurd cc
      takes (zero ∷ rest) x fits e = subst (λ (z : Option A × List ℕ). Takes (0 ∷ rest) (maybe_bytes spell z.0) z.1 × FitsIfThere Fits z.0) (ok_is (None, rest) x e) (record { parts = refl; rest_fits = λ i. fits (suc i) }, tt)
      takes (suc zero ∷ rest) x fits e =
          let b = bind_ok (as_field (1 ∷ rest) (at rest)) (λ y. Ok (Some y.0, y.1)) x e in
          let t = field.takes rest b.0 (λ i. fits (suc i)) (field_ok (1 ∷ rest) (at rest) b.0 b.1) in
          subst (λ (z : Option A × List ℕ). Takes (1 ∷ rest) (maybe_bytes spell z.0) z.1 × FitsIfThere Fits z.0) (ok_is (Some b.0.0, b.0.1) x b.2)
          (record { parts = ap (λ (w : List ℕ). 1 ∷ w) t.0.parts; rest_fits = t.0.rest_fits }, t.1)
      takes (suc (suc b) ∷ rest) x fits e = absurd cc

      again : (o : Option A) (rest : List ℕ) → FitsIfThere Fits o → maybe_at at (maybe_bytes spell o ++ rest) ≡ Ok (o, rest)
      again None rest fits = refl
      again (Some x) rest fits = ap (λ (r : Read A). as_field (1 ∷ (spell x ++ rest)) r >>= λ y. Ok (Some y.0, y.1)) (field.again x rest fits)

      within : (bytes : List ℕ) (left : ℕ) → IsBytes bytes → maybe_at at bytes ≡ Err left → left ≤ length bytes
      within [] left fits e = let same : 0 ≡ left = err_is {A = Option A × List ℕ} 0 left e in omega arith
      within (zero ∷ rest) left fits e = absurd cc
      within (suc zero ∷ rest) left fits e = field_err (1 ∷ rest) (at rest) (λ y. Ok (Some y.0, y.1)) left (λ x. no_err x left) e
      within (suc (suc b) ∷ rest) left fits e = let same : suc (length rest) ≡ left = err_is {A = Option A × List ℕ} (suc (length rest)) left e in omega arith

  -- ---- a rule more

  kept_ok : (rule : A → Bool) (bytes : List ℕ) (r : Read A) (y : A × List ℕ) → kept rule bytes r ≡ Ok y → (r ≡ Ok y) × (rule y.0 ≡ true)
  kept_ok rule bytes (Err left) y e = absurd cc
  kept_ok rule bytes (Ok x) y e =
      let t = test_ok (rule x.0) (length bytes) x y e in
      let same : ◌≡◌ {A = Read A} (Ok x) (Ok y) = ap (λ (z : A × List ℕ). let r : Read A = Ok z in r) t.1 in
      (same, subst (λ (z : A × List ℕ). rule z.0 ≡ true) t.1 t.0)

  kept_err : (rule : A → Bool) (bytes : List ℕ) (r : Read A) (left : ℕ) → ((d : ℕ) → r ≡ Err d → d ≤ length bytes) → kept rule bytes r ≡ Err left → left ≤ length bytes
  kept_err rule bytes (Ok x) left h e = within_test (rule x.0) (length bytes) left x e
  kept_err rule bytes (Err d) left h e = let same : d ≡ left = err_is {A = A × List ℕ} d left e in let le = h d refl in omega arith

  pub kept_field : {at : List ℕ → Read A} {spell : A → List ℕ} {Fits : A → Type 0} (rule : A → Bool) → IsField at spell Fits → IsField (λ bytes. kept rule bytes (at bytes)) spell (λ x. Fits x × IsTrue (rule x))
  kept_field {at} {spell} {Fits} rule field = record {
    takes = λ bytes x fits e. let k = kept_ok rule bytes (at bytes) x e in let t = field.takes bytes x fits k.0 in (t.0, (t.1, k.1));
    again = λ x rest fits. rw (field.again x rest fits.0, fits.1) refl;
    within = λ bytes left fits e. kept_err rule bytes (at bytes) left (λ d h. field.within bytes d fits h) e;
  }

maybe_value_fits : (o : Option (List ℕ)) → FitsIfThere (λ v. IsTrue (is_value v)) o → IsTrue (is_maybe_value o)
maybe_value_fits None h = refl
maybe_value_fits (Some v) h = h

fits_maybe_value : (o : Option (List ℕ)) → IsTrue (is_maybe_value o) → FitsIfThere (λ v. IsTrue (is_value v)) o
fits_maybe_value None h = tt
fits_maybe_value (Some v) h = h

pub a_maybe_value : IsField maybe_value_at (maybe_bytes value_bytes) (λ v. IsTrue (is_maybe_value v))
a_maybe_value = respelled (maybe_field a_value) (λ v. refl) maybe_value_fits fits_maybe_value

pub a_new_value : (old : Option (List ℕ)) → IsField (new_value_at old) (maybe_bytes value_bytes) (λ new. IsTrue (is_maybe_value new) × IsTrue (is_change old new))
unfolding new_value_at
a_new_value old = kept_field (is_change old) a_maybe_value
