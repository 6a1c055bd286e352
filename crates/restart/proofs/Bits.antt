-- Bits in words, and the list of truth values for which they stand.
use Rattle.std.proofs.Common.{◌≡◌, ◌≢◌, ◌⊎◌, ℕ, zero, suc, ◌+◌, ◌-◌, ◌/◌, ◌%◌, ◌^◌, ◌<◌, ◌≤◌, eqb, List, [], ◌∷◌, length, get_or, Bool, true, false, Some, None, refl, sym, ap, ◌∙◌, arith, inl, inr, w64}
use Rattle.std.specs.Prelude.{map, slice_get, slice_set, slice_index_or}
use Rattle.std.specs.Int.{bit_at, trailing_zeros}
use Rattle.std.specs.List.{range_with_len}
use Rattle.std.proofs.Math.Nat.{div-div-eq-div-mul}
use Rattle.std.proofs.lemmas.Bool.{cases_eq, cases_lt}
use Rattle.std.proofs.lemmas.Nat.{pow-add, shr_le}
use Rattle.std.proofs.lemmas.Nat.Bits.{bit_at-trailing_zeros, bit_at-zero, bit_at_above}
use Rattle.std.proofs.lemmas.List.{get_or-set_same, get_or-set_other}
use Rattle.std.proofs.lemmas.List.FromFn.{get_or-map-range_with_len, length-map-range_with_len}
use Rattle.restart.specs.Plans.{awaits, Comes, IsNextAwaiting, IsNextFlag, flag_at, flags}

-- ---- one bit of a word changes

pub flag_same : (words : List ℕ) (n x b : ℕ) → n / 64 < length words → bit_at x (n % 64) ≡ b → flag_at (slice_set words (n / 64) x) n ≡ eqb b 1
flag_same words n x b inside is = ap (λ (w : ℕ). eqb (bit_at w (n % 64)) 1) (get_or-set_same words (n / 64) x 0 inside) ∙ ap (λ (v : ℕ). eqb v 1) is

pub flag_other : (words : List ℕ) (n x : ℕ) → n / 64 < length words → ((i : ℕ) → i < 64 → i ≢ n % 64 → bit_at x i ≡ bit_at (get_or words (n / 64) 0) i)
    → (m : ℕ) → m ≢ n → flag_at (slice_set words (n / 64) x) m ≡ flag_at words m
flag_other words n x inside rest m apart = elim (cases_eq (m / 64) (n / 64)) [
  | inl e ↦
      ap (λ (w : ℕ). eqb (bit_at (get_or (slice_set words (n / 64) x) w 0) (m % 64)) 1) e
      ∙ ap (λ (w : ℕ). eqb (bit_at w (m % 64)) 1) (get_or-set_same words (n / 64) x 0 inside)
      ∙ ap (λ (v : ℕ). eqb v 1) (rest (m % 64) (omega arith) (λ s. apart (omega (arith, e, s))))
      ∙ ap (λ (w : ℕ). eqb (bit_at (get_or words w 0) (m % 64)) 1) (sym e)
  | inr d ↦ ap (λ (w : ℕ). eqb (bit_at w (m % 64)) 1) (get_or-set_other words (n / 64) (m / 64) x 0 d)
]

-- ---- the lowest bit of a word from some place on

-- a bit of what is left of a word that is shifted
shifted : (w k i : ℕ) → bit_at (w / 2 ^ k) i ≡ bit_at w (k + i)
shifted w k i = ap (λ (v : ℕ). v % 2) (div-div-eq-div-mul w (2 ^ k) (2 ^ i) ∙ ap (λ (m : ℕ). w / m) (sym (pow-add 2 k i)))

module _ (words : List ℕ) (place : ℕ) where
  abbrev pub rest : ℕ
  rest = get_or words (place / 64) 0 / 2 ^ (place % 64)

  flag_ahead : (i : ℕ) → place % 64 + i < 64 → flag_at words (place + i) ≡ eqb (bit_at rest i) 1
  flag_ahead i inside =
      let word : (place + i) / 64 ≡ place / 64 = omega (arith, inside) in
      let bit : (place + i) % 64 ≡ place % 64 + i = omega (arith, inside) in
      (λ j. eqb (bit_at (get_or words (word j) 0) (bit j)) 1) ∙ ap (λ (v : ℕ). eqb v 1) (sym (shifted (get_or words (place / 64) 0) (place % 64) i))

  -- the word has none from the place on
  pub none_ahead : rest ≡ 0 → (n : ℕ) → place ≤ n → n < place + (64 - place % 64) → flag_at words n ≡ false
  none_ahead zero_is n from below =
      ap (flag_at words) (omega (arith, from)) ∙ flag_ahead (n - place) (omega (arith, from, below)) ∙ ap (λ (v : ℕ). eqb (bit_at v (n - place)) 1) zero_is ∙ ap (λ (v : ℕ). eqb v 1) (bit_at-zero (n - place))

  -- else the lowest is so far ahead
  module _ (some : 0 < rest) (small : get_or words (place / 64) 0 < 2 ^ 64) where
    abbrev pub ahead : ℕ
    ahead = trailing_zeros w64 rest

    lowest : (ahead < 64) × (bit_at rest ahead ≡ 1) × ((i : ℕ) → i < ahead → bit_at rest i ≡ 0)
    lowest = bit_at-trailing_zeros w64 rest some (let le = shr_le (get_or words (place / 64) 0) (place % 64) in omega (arith, le, small))

    within : place % 64 + ahead < 64
    within = elim (cases_lt (place % 64 + ahead) 64) [
      | inl is ↦ is
      | inr over ↦ absurd (cc (sym lowest.1 ∙ shifted (get_or words (place / 64) 0) (place % 64) ahead ∙ bit_at_above (get_or words (place / 64) 0) 64 (place % 64 + ahead) small over))
    ]

    pub found_there : flag_at words (place + ahead) ≡ true
    found_there = flag_ahead ahead within ∙ ap (λ (v : ℕ). eqb v 1) lowest.1

    pub none_before : (n : ℕ) → place ≤ n → n < place + ahead → flag_at words n ≡ false
    none_before n from below =
        ap (flag_at words) (omega (arith, from)) ∙ flag_ahead (n - place) (let i = within in omega (arith, from, below, i)) ∙ ap (λ (v : ℕ). eqb v 1) (lowest.2 (n - place) (omega (arith, from, below)))

-- ---- the list

pub flags_at : (count n : ℕ) (words : List ℕ) → n < count → slice_index_or (flags count words) n false ≡ flag_at words n
flags_at count n words inside = get_or-map-range_with_len (flag_at words) 0 count n n false inside (omega arith)

pub flags_length : (count : ℕ) (words : List ℕ) → length (flags count words) ≡ count
flags_length count words = length-map-range_with_len (flag_at words) 0 count

past : (xs : List Bool) (n : ℕ) → length xs ≤ n → slice_index_or xs n false ≡ false
past [] n over = refl
past (x ∷ xs) zero over = absurd (omega arith)
past (x ∷ xs) (suc n) over = past xs n (omega (arith, over))

pub flags_past : (count n : ℕ) (words : List ℕ) → count ≤ n → slice_index_or (flags count words) n false ≡ false
flags_past count n words over = past (flags count words) n (let l = flags_length count words in omega (arith, l, over))

-- bits that are those of items, one by one
same_map : {A : Type 0} (f : ℕ → Bool) (g : A → Bool) (from : ℕ) (xs : List A) → ((k : ℕ) (x : A) → slice_get xs k ≡ Some x → f (from + k) ≡ g x) → map f (range_with_len from (length xs)) ≡ map g xs
same_map f g from [] same = refl
same_map f g from (x ∷ xs) same =
    let first : f from ≡ g x = ap f (omega arith) ∙ same 0 x refl in
    let rest = same_map f g (from + 1) xs (λ k y at. ap f (omega arith) ∙ same (suc k) y at) in
    λ i. first i ∷ rest i

pub flags_same : {A : Type 0} (g : A → Bool) (words : List ℕ) (xs : List A) → ((k : ℕ) (x : A) → slice_get xs k ≡ Some x → flag_at words k ≡ g x) → flags (length xs) words ≡ map g xs
flags_same g words xs same = same_map (flag_at words) g 0 xs (λ k x at. ap (flag_at words) (omega arith) ∙ same k x at)

-- ---- a page comes

pub comes : (count place page : ℕ) (old new : List ℕ) → page ≡ suc place → place < count → flag_at new place ≡ false → ((m : ℕ) → m ≢ place → flag_at new m ≡ flag_at old m)
    → Comes page (flags count old) (flags count new)
comes count place page old new is inside clear others = record {
  pages = flags_length count new ∙ sym (flags_length count old);
  come = ap (awaits (flags count new)) is ∙ flags_at count place new inside ∙ clear;
  others = rest;
}
  where
    rest : (q : ℕ) → q ≢ page → awaits (flags count new) q ≡ awaits (flags count old) q
    rest zero apart = refl
    rest (suc m) apart = elim (cases_lt m count) [
      | inl within ↦ flags_at count m new within ∙ others m (λ e. apart (ap suc e ∙ sym is)) ∙ sym (flags_at count m old within)
      | inr over ↦ flags_past count m new over ∙ sym (flags_past count m old over)
    ]

-- ---- what a plan says

pub plan_length : (plan : List Bool) (count : ℕ) (words : List ℕ) → flags count words ≡ plan → length plan ≡ count
plan_length plan count words is = ap (λ (l : List Bool). length l) (sym is) ∙ flags_length count words

pub plan_at : (plan : List Bool) (count place page : ℕ) (words : List ℕ) → flags count words ≡ plan → page ≡ suc place → place < length plan → flag_at words place ≡ awaits plan page
plan_at plan count place page words is page_is inside =
    sym (flags_at count place words (let l = plan_length plan count words is in omega (arith, l, inside))) ∙ ap (λ (l : List Bool). slice_index_or l place false) is ∙ sym (ap (awaits plan) page_is)

pub plan_outside : (plan : List Bool) (page : ℕ) → (1 ≤ page → length plan < page) → awaits plan page ≡ false
plan_outside plan zero over = refl
plan_outside plan (suc n) over = past plan n (let o = over (omega arith) in omega (arith, o))

pub item_within : {A : Type 0} (xs : List A) (n : ℕ) (x : A) → slice_get xs n ≡ Some x → n < length xs
item_within [] n x at = absurd (cc at)
item_within (y ∷ ys) zero x at = omega arith
item_within (y ∷ ys) (suc n) x at = let l = item_within ys n x at in omega (arith, l)

-- ---- the next page

module _ (plan : List Bool) (count : ℕ) (words : List ℕ) (is : flags count words ≡ plan) (after : ℕ) where
  awaits_at : (m : ℕ) → m < count → awaits plan (suc m) ≡ flag_at words m
  awaits_at m inside = ap (λ (l : List Bool). slice_index_or l m false) (sym is) ∙ flags_at count m words inside

  -- pages whose bits are off
  none_of : (q upto : ℕ) → ((n : ℕ) → after ≤ n → n < upto → flag_at words n ≡ false) → count ≤ upto ⊎ (q ≤ upto) → after < q → awaits plan q ≡ false
  none_of zero upto off far above = absurd (omega (arith, above))
  none_of (suc m) upto off far above = elim (cases_lt m count) [
    | inl inside ↦ awaits_at m inside ∙ off m (omega (arith, above)) (elim far [ inl all ↦ omega (arith, inside, all) | inr some ↦ omega (arith, some) ])
    | inr over ↦ plan_outside plan (suc m) (λ some. let l = plan_length plan count words is in omega (arith, l, over))
  ]

  pub next_there : (place : ℕ) → IsNextFlag words after count (Some place) → IsNextAwaiting plan after (Some (place + 1))
  next_there place (from, inside, on, off) = (
    omega (arith, from),
    ap (awaits plan) {y = suc place} (omega arith) ∙ awaits_at place inside ∙ on,
    λ q above below. none_of q place off (inr (omega (arith, below))) above,
  )

  pub next_none : IsNextFlag words after count None → IsNextAwaiting plan after None
  next_none off q above = none_of q count off (inl (omega arith)) above
