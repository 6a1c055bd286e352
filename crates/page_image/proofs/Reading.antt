-- What follows the digest is read exactly where it is spelled so.
use Rattle.std.proofs.Common.{◌≡◌, ℕ, zero, suc, ◌-◌, ◌<◌, ◌≤◌, ◌^◌, Bool, true, false, cond, eqb, List, [], ◌∷◌, ◌++◌, length, take, drop, Result, Ok, Err, refl, sym, ap, subst, ◌∙◌, append_assoc, arith}
use Rattle.std.specs.Prelude.{IsTrue, replicate}
use Rattle.std.specs.List.{list_all}
use Rattle.std.specs.Int.{w8, w32, w64, from_be_bytes}
use Rattle.std.proofs.lemmas.Bool.{and_parts}
use Rattle.std.proofs.lemmas.Bool.Decides.{nat_tests}
use Rattle.std.proofs.lemmas.List.{length-append, length-drop, take_at, drop_at, take-append-drop}
use Rattle.sha2.specs.Sha256.{sha256}
use Rattle.sha2.proofs.Facts256.{length-sha256}
use Rattle.wal_record.specs.Rules.{is_number}
use Rattle.wal_record.specs.State.{KeepsState}
use Rattle.wal_record.specs.Spelling.{number_bytes, state_bytes}
use Rattle.wal_record.specs.Reading.{Read, ◌>>=◌, number_at, state_at}
use Rattle.wal_record.specs.declared.page.PageState.{PageState}
use Rattle.state_codec.proofs.Fields.{IsField, IsBytes, IsBytes-drop, Takes, Takes-then, Takes-shorter, bind_ok, err_is, number_field, wide8, wide32}
use Rattle.state_codec.proofs.FieldKinds.{a_number}
use Rattle.state_codec.proofs.StateField.{state_field}
use Rattle.page_image.specs.Image.{head_bytes, body_bytes, image_bytes}
use Rattle.page_image.specs.Reading.{is_format, is_page_number, is_zero, zeros_at, with_zeros, sealed_at, number_in, number_of, Verifies}
use Rattle.page_image.specs.declared.sealed.Sealed.{Sealed}

-- ---- fields

eq_is : (m n : ℕ) → eqb m n ≡ true → m ≡ n
eq_is m n h = grind (arith, nat_tests)

is_eq : (m n : ℕ) → m ≡ n → eqb m n ≡ true
is_eq m n h = grind (arith, nat_tests)

a_format : IsField (number_at w8 is_format) (number_bytes w8) (λ n. n ≡ 1)
a_format = number_field w8 (2 ^ 8) wide8 is_format (λ n. n ≡ 1) (λ n lt h. eq_is n 1 h) (λ n h. (is_eq n 1 h, omega (arith, h)))

a_page_number : (page : ℕ) → page < 2 ^ 32 → IsField (number_at w32 (is_page_number page)) (number_bytes w32) (λ n. n ≡ page)
a_page_number page small = number_field w32 (2 ^ 32) wide32 (is_page_number page) (λ n. n ≡ page) (λ n lt h. eq_is n page h) (λ n h. (is_eq n page h, omega (arith, h, small)))

-- ---- zero bytes

all_zero : (bytes : List ℕ) → list_all is_zero bytes ≡ true → bytes ≡ replicate (length bytes) 0
all_zero [] h = refl
all_zero (b ∷ bytes) h =
    let p = and_parts _ _ h in
    (λ i. eq_is b 0 p.0 i ∷ all_zero bytes p.1 i)

zero_all : (n : ℕ) → list_all is_zero (replicate n 0) ≡ true
zero_all zero = refl
zero_all (suc n) = zero_all n

zeros_read : (x y : Sealed) (bytes : List ℕ) → with_zeros x (zeros_at bytes) ≡ Ok y → (x ≡ y) × (bytes ≡ replicate (length bytes) 0)
unfolding zeros_at
zeros_read x y bytes e = by (list_all is_zero bytes) refl e
  where
    by : (b : Bool) → list_all is_zero bytes ≡ b → with_zeros x (cond b (Ok 0) (Err (length bytes))) ≡ Ok y → (x ≡ y) × (bytes ≡ replicate (length bytes) 0)
    by true h e = (cc, all_zero bytes h)
    by false h e = absurd cc

zeros_again : (x : Sealed) (n : ℕ) → with_zeros x (zeros_at (replicate n 0)) ≡ Ok x
unfolding zeros_at
zeros_again x n = rw (zero_all n) refl

zeros_within : (x : Sealed) (bytes : List ℕ) (left : ℕ) → with_zeros x (zeros_at bytes) ≡ Err left → left ≤ length bytes
unfolding zeros_at
zeros_within x bytes left e = by (list_all is_zero bytes) e
  where
    by : (b : Bool) → with_zeros x (cond b (Ok 0) (Err (length bytes))) ≡ Err left → left ≤ length bytes
    by true e = absurd cc
    by false e = let same : length bytes ≡ left = err_is {A = Sealed} (length bytes) left e in omega arith

-- ---- the steps

with_state : ℕ → PageState × List ℕ → Result Sealed ℕ
with_state lsn s = with_zeros (record { state = s.0; lsn = lsn }) (zeros_at s.1)

with_lsn : ℕ × List ℕ → Result Sealed ℕ
with_lsn lsn = state_at lsn.1 >>= with_state lsn.0

with_number : ℕ × List ℕ → Result Sealed ℕ
with_number n = number_at w64 is_number n.1 >>= with_lsn

with_format : ℕ → ℕ × List ℕ → Result Sealed ℕ
with_format page f = number_at w32 (is_page_number page) f.1 >>= with_number

sealed_is : (page : ℕ) (bytes : List ℕ) → sealed_at page bytes ≡ (number_at w8 is_format bytes >>= with_format page)
unfolding sealed_at with_format with_number with_lsn with_state
sealed_is page bytes = refl

-- the step that failed
failed : {A : Type 0} (r : Read A) (f : A × List ℕ → Result Sealed ℕ) (left n : ℕ) → (r >>= f) ≡ Err left
    → ((d : ℕ) → r ≡ Err d → d ≤ n) → ((x : A × List ℕ) → r ≡ Ok x → f x ≡ Err left → left ≤ n) → left ≤ n
failed (Ok x) f left n e h g = g x refl e
failed (Err d) f left n e h g = let same : d ≡ left = err_is {A = Sealed} d left e in let le = h d refl in omega arith

-- ---- all of it

four : (a b c d : List ℕ) → a ++ (b ++ (c ++ d)) ≡ (a ++ b ++ c) ++ d
four a b c d = simp append_assoc

module _ (page : ℕ) (small : page < 2 ^ 32) where
  pub sealed_takes : (bytes : List ℕ) (x : Sealed) → IsBytes bytes → length bytes ≡ 4064 → sealed_at page bytes ≡ Ok x → (bytes ≡ body_bytes page x.lsn x.state) × KeepsState x.state × IsTrue (is_number x.lsn)
  unfolding with_format with_number with_lsn with_state body_bytes
  sealed_takes bytes x fits len e =
      let a = bind_ok (number_at w8 is_format bytes) (with_format page) x (sym (sealed_is page bytes) ∙ e) in
      let ta = a_format.takes bytes a.0 fits a.1 in
      let b = bind_ok (number_at w32 (is_page_number page) a.0.1) with_number x a.2 in
      let tb = (a_page_number page small).takes a.0.1 b.0 ta.0.rest_fits b.1 in
      let c = bind_ok (number_at w64 is_number b.0.1) with_lsn x b.2 in
      let tc = a_number.takes b.0.1 c.0 tb.0.rest_fits c.1 in
      let d = bind_ok (state_at c.0.1) (with_state c.0.0) x c.2 in
      let td = state_field.takes c.0.1 d.0 tc.0.rest_fits d.1 in
      let z = zeros_read (record { state = d.0.0; lsn = c.0.0 }) x d.0.1 d.2 in
      let front : List ℕ = head_bytes page c.0.0 ++ state_bytes d.0.0 in
      let text : Takes bytes (number_bytes w8 a.0.0 ++ (number_bytes w32 b.0.0 ++ (number_bytes w64 c.0.0 ++ state_bytes d.0.0))) d.0.1 =
      Takes-then bytes (number_bytes w8 a.0.0) a.0.1 _ d.0.1 ta.0
      (Takes-then a.0.1 (number_bytes w32 b.0.0) b.0.1 _ d.0.1 tb.0
      (Takes-then b.0.1 (number_bytes w64 c.0.0) c.0.1 (state_bytes d.0.0) d.0.1 tc.0 td.0)) in
      let spelled : number_bytes w8 a.0.0 ++ (number_bytes w32 b.0.0 ++ (number_bytes w64 c.0.0 ++ state_bytes d.0.0)) ≡ front =
      (λ i. number_bytes w8 (ta.1 i) ++ (number_bytes w32 (tb.1 i) ++ (number_bytes w64 c.0.0 ++ state_bytes d.0.0))) ∙ four (number_bytes w8 1) (number_bytes w32 page) (number_bytes w64 c.0.0) (state_bytes d.0.0) in
      let parts : bytes ≡ front ++ d.0.1 = text.parts ∙ ap (λ (t : List ℕ). t ++ d.0.1) spelled in
      let left : length d.0.1 ≡ 4064 - length front = omega (arith, len, ap length parts, length-append front d.0.1) in
      let rest : d.0.1 ≡ replicate (4064 - length front) 0 = z.1 ∙ ap (λ (n : ℕ). let xs : List ℕ = replicate n 0 in xs) left in
      subst (λ (y : Sealed). (bytes ≡ body_bytes page y.lsn y.state) × KeepsState y.state × IsTrue (is_number y.lsn)) z.0 (parts ∙ ap (λ (t : List ℕ). front ++ t) rest, td.1, tc.1)

  laid : (lsn : ℕ) (s : PageState) (zeros : List ℕ) → (head_bytes page lsn ++ state_bytes s) ++ zeros ≡ number_bytes w8 1 ++ (number_bytes w32 page ++ (number_bytes w64 lsn ++ (state_bytes s ++ zeros)))
  laid lsn s zeros = simp append_assoc

  pub sealed_again : (x : Sealed) → KeepsState x.state → IsTrue (is_number x.lsn) → sealed_at page (body_bytes page x.lsn x.state) ≡ Ok x
  unfolding with_format with_number with_lsn with_state body_bytes
  sealed_again x keeps number =
      let n : ℕ = 4064 - length (head_bytes page x.lsn ++ state_bytes x.state) in
      let zeros : List ℕ = replicate n 0 in
      let r3 = state_bytes x.state ++ zeros in
      let r2 = number_bytes w64 x.lsn ++ r3 in
      let r1 = number_bytes w32 page ++ r2 in
      ap (sealed_at page) (laid x.lsn x.state zeros)
      ∙ sealed_is page (number_bytes w8 1 ++ r1)
      ∙ ap (λ (r : Read ℕ). r >>= with_format page) (a_format.again 1 r1 refl)
      ∙ ap (λ (r : Read ℕ). r >>= with_number) ((a_page_number page small).again page r2 refl)
      ∙ ap (λ (r : Read ℕ). r >>= with_lsn) (a_number.again x.lsn r3 number)
      ∙ ap (λ (r : Read PageState). r >>= with_state x.lsn) (state_field.again x.state zeros keeps)
      ∙ zeros_again x n

  pub sealed_within : (bytes : List ℕ) (left : ℕ) → IsBytes bytes → sealed_at page bytes ≡ Err left → left ≤ length bytes
  unfolding with_format with_number with_lsn with_state
  sealed_within bytes left fits e =
      failed (number_at w8 is_format bytes) (with_format page) left (length bytes) (sym (sealed_is page bytes) ∙ e) (λ d h. a_format.within bytes d fits h) (λ a ha ea.
      let ta = a_format.takes bytes a fits ha in
      let sa = Takes-shorter bytes (number_bytes w8 a.0) a.1 ta.0 in
      failed (number_at w32 (is_page_number page) a.1) with_number left (length bytes) ea (λ d h. let le = (a_page_number page small).within a.1 d ta.0.rest_fits h in omega arith) (λ b hb eb.
      let tb = (a_page_number page small).takes a.1 b ta.0.rest_fits hb in
      let sb = Takes-shorter a.1 (number_bytes w32 b.0) b.1 tb.0 in
      failed (number_at w64 is_number b.1) with_lsn left (length bytes) eb (λ d h. let le = a_number.within b.1 d tb.0.rest_fits h in omega arith) (λ c hc ec.
      let tc = a_number.takes b.1 c tb.0.rest_fits hc in
      let sc = Takes-shorter b.1 (number_bytes w64 c.0) c.1 tc.0 in
      failed (state_at c.1) (with_state c.0) left (length bytes) ec (λ d h. let le = state_field.within c.1 d tc.0.rest_fits h in omega arith) (λ s hs es.
      let ts = state_field.takes c.1 s tc.0.rest_fits hs in
      let ss = Takes-shorter c.1 (state_bytes s.0) s.1 ts.0 in
      let le = zeros_within (record { state = s.0; lsn = c.0 }) s.1 left es in
      omega arith))))

  -- ---- whole images

  pub image_found : (bytes : List ℕ) (x : Sealed) → IsBytes bytes → length bytes ≡ 4096 → Verifies bytes → sealed_at page (drop 32 bytes) ≡ Ok x → KeepsState x.state × IsTrue (is_number x.lsn) × (bytes ≡ image_bytes page x.lsn x.state)
  image_found bytes x fits len verifies e =
      let t = sealed_takes (drop 32 bytes) x (IsBytes-drop 32 bytes fits) (omega (arith, length-drop 32 bytes)) e in
      (t.1, t.2, sym (take-append-drop 32 bytes) ∙ ap (λ (d : List ℕ). d ++ drop 32 bytes) verifies ∙ (λ i. sha256 (t.0 i) ++ t.0 i))

  number_again : (lsn : ℕ) (s : PageState) → number_in (body_bytes page lsn s) ≡ page
  unfolding number_in body_bytes number_bytes
  number_again lsn s =
      let zeros : List ℕ = replicate (4064 - length (head_bytes page lsn ++ state_bytes s)) 0 in
      let behind : List ℕ = number_bytes w64 lsn ++ (state_bytes s ++ zeros) in
      let first : drop 1 (body_bytes page lsn s) ≡ number_bytes w32 page ++ behind = ap (drop 1) (laid lsn s zeros) ∙ drop_at (number_bytes w8 1) (number_bytes w32 page ++ behind) 1 refl in
      let four_bytes : take 4 (number_bytes w32 page ++ behind) ≡ number_bytes w32 page = take_at (number_bytes w32 page) behind 4 (wide32.len page) in
      ap (λ (t : List ℕ). from_be_bytes w32 (take 4 t)) first ∙ ap (from_be_bytes w32) four_bytes ∙ wide32.again page small

  -- an image is what it says
  pub record IsImageOf (bytes : List ℕ) (x : Sealed) : Type 0 where
    pub verifies : Verifies bytes
    pub number : number_of bytes ≡ page
    pub reads : sealed_at page (drop 32 bytes) ≡ Ok x

  pub image_is : (bytes : List ℕ) (x : Sealed) → KeepsState x.state → IsTrue (is_number x.lsn) → bytes ≡ image_bytes page x.lsn x.state → IsImageOf bytes x
  image_is bytes x keeps number e =
      let body = body_bytes page x.lsn x.state in
      let digest = sha256 body in
      let behind : drop 32 bytes ≡ body = ap (drop 32) e ∙ drop_at digest body 32 (length-sha256 body) in
      record {
        verifies = ap (take 32) e ∙ take_at digest body 32 (length-sha256 body) ∙ ap sha256 (sym behind);
        number = ap number_in behind ∙ number_again x.lsn x.state;
        reads = ap (sealed_at page) behind ∙ sealed_again x keeps number;
      }
