-- Which of the standing runs covers an LSN.
use Rattle.std.proofs.Common.{◌≡◌, ℕ, zero, suc, ◌<◌, ◌≤◌, Bool, true, false, cond, List, [], ◌∷◌, length, get_or, Option, Some, None, refl, sym, ap, ◌∙◌, arith}
use Rattle.std.specs.Prelude.{nat_lt, nat_le, slice_get, All}
use Rattle.std.specs.List.{find}
use Rattle.std.specs.List.Sorted.{IsPartitionPoint, IsPartitionedBy}
use Rattle.std.proofs.lemmas.Bool.{and_from}
use Rattle.std.proofs.lemmas.Bool.Decides.{nat_tests}
use Rattle.wal_record.specs.declared.analysis.Run.{Run}
use Rattle.listing_laws.proofs.Rising.{Each}
use Rattle.listing_laws.proofs.Numbers.{AreRuns}
use Rattle.log_index.specs.Listing.{covers_lsn, AreApart}

-- ---- the standing runs are apart

all_of_each : (P : Run → Type 0) (xs : List Run) → Each P xs → All P xs
all_of_each P [] h k d lt = absurd (omega (arith, lt))
all_of_each P (x ∷ xs) h zero d lt = h.0
all_of_each P (x ∷ xs) h (suc k) d lt = all_of_each P xs h.1 k d (omega (arith, lt))

pub apart : (xs : List Run) → AreRuns xs → AreApart xs
apart [] h = tt
apart (x ∷ xs) h = (h.0.0, all_of_each (λ (y : Run). x.last < y.first) xs h.1, apart xs h.2)

-- ---- so their ends rise

ordered : (xs : List Run) (j : ℕ) (d : Run) → AreApart xs → j < length xs → (get_or xs j d).first ≤ (get_or xs j d).last
ordered [] j d h lt = absurd (omega (arith, lt))
ordered (x ∷ xs) zero d h lt = h.0
ordered (x ∷ xs) (suc j) d h lt = ordered xs j d h.2 (omega (arith, lt))

ends_rise : (xs : List Run) (i j : ℕ) (d : Run) → AreApart xs → i ≤ j → j < length xs → (get_or xs i d).last ≤ (get_or xs j d).last
ends_rise [] i j d h le lt = absurd (omega (arith, lt))
ends_rise (x ∷ xs) zero zero d h le lt = omega arith
ends_rise (x ∷ xs) zero (suc j) d h le lt =
    let a = h.1 j d (omega (arith, lt)) in
    let b = ordered xs j d h.2 (omega (arith, lt)) in
    omega (arith, a, b)
ends_rise (x ∷ xs) (suc i) zero d h le lt = absurd (omega (arith, le))
ends_rise (x ∷ xs) (suc i) (suc j) d h le lt = ends_rise xs i j d h.2 (omega (arith, le)) (omega (arith, lt))

less_of : (a b : ℕ) → nat_lt a b ≡ true → a < b
less_of a b h = grind (arith, nat_tests)

not_less : (a b : ℕ) → nat_lt a b ≡ false → b ≤ a
not_less a b h = grind (arith, nat_tests)

less_true : (a b : ℕ) → a < b → nat_lt a b ≡ true
less_true a b h = grind (arith, nat_tests)

-- ---- the run at a place

pub there : (xs : List Run) (m : ℕ) (x : Run) → m < length xs → x ≡ get_or xs m x → slice_get xs m ≡ Some x
there [] m x lt e = absurd (omega (arith, lt))
there (y ∷ ys) zero x lt e = ap (λ (r : Run). Some r) (sym e)
there (y ∷ ys) (suc m) x lt e = there ys m x (omega (arith, lt)) e

pub beyond : (xs : List Run) (m : ℕ) → length xs ≤ m → slice_get xs m ≡ None
beyond [] m le = refl
beyond (y ∷ ys) zero le = absurd (omega (arith, le))
beyond (y ∷ ys) (suc m) le = beyond ys m (omega (arith, le))

module _ (lsn : ℕ) where
  abbrev pub ends_before : Run → Bool
  ends_before x = nat_lt x.last lsn

  pub parted : (xs : List Run) → AreApart xs → IsPartitionedBy ends_before xs
  parted xs h i j d le lt e = let a = ends_rise xs i j d h le lt in let b = less_of _ _ e in less_true _ _ (omega (arith, a, b))

  abbrev pub PartsAt : List Run → ℕ → Type 0
  PartsAt xs m = IsPartitionPoint (λ x. ends_before x ≡ true) (λ x. ends_before x ≡ false) xs m

  rest_parts : (x : Run) (xs : List Run) (m : ℕ) → PartsAt (x ∷ xs) (suc m) → PartsAt xs m
  rest_parts x xs m h = (λ k d low lt. h.0 (suc k) d (omega arith) (omega (arith, lt)), λ k d low lt. h.1 (suc k) d (omega (arith, low)) (omega (arith, lt)))

  -- ---- what a search for it finds

  is_covered : (x : Run) → x.first ≤ lsn → ends_before x ≡ false → covers_lsn lsn x ≡ true
  is_covered x le e = and_from (nat_le x.first lsn) (nat_le lsn x.last) (grind (arith, nat_tests)) (grind (arith, nat_tests, not_less x.last lsn e))

  ended : (x : Run) → ends_before x ≡ true → covers_lsn lsn x ≡ false
  ended x e = grind (arith, nat_tests, less_of x.last lsn e)

  begins_behind : (x : Run) → lsn < x.first → covers_lsn lsn x ≡ false
  begins_behind x h = grind (arith, nat_tests)

  abbrev or_next : Run → List Run → Bool → Option Run
  or_next x xs b = cond b (Some x) (find (covers_lsn lsn) xs)

  pub found_at : (xs : List Run) (m : ℕ) (x : Run) → PartsAt xs m → slice_get xs m ≡ Some x → x.first ≤ lsn → find (covers_lsn lsn) xs ≡ Some x
  found_at [] m x h e le = absurd cc
  found_at (y ∷ ys) zero x h e le =
      let same : x ≡ y = cc in
      let first : y.first ≤ lsn = let s = ap (λ (r : Run). r.first) same in omega (arith, le, s) in
      ap (or_next y ys) (is_covered y first (h.1 0 y (omega arith) (omega arith))) ∙ e
  found_at (y ∷ ys) (suc m) x h e le = ap (or_next y ys) (ended y (h.0 0 y (omega arith) (omega arith))) ∙ found_at ys m x (rest_parts y ys m h) e le

  none_behind : (xs : List Run) → All (λ (x : Run). lsn < x.first) xs → find (covers_lsn lsn) xs ≡ None
  none_behind [] h = refl
  none_behind (x ∷ xs) h = ap (or_next x xs) (begins_behind x (h 0 x (omega arith))) ∙ none_behind xs (λ k d lt. h (suc k) d (omega (arith, lt)))

  pub none_at : (xs : List Run) (m : ℕ) → AreApart xs → PartsAt xs m → ((x : Run) → slice_get xs m ≡ Some x → lsn < x.first) → find (covers_lsn lsn) xs ≡ None
  none_at [] m a h behind = refl
  none_at (y ∷ ys) zero a h behind =
      let first = behind y refl in
      let order = a.0 in
      ap (or_next y ys) (begins_behind y first) ∙ none_behind ys (λ k d lt. let b = a.1 k d lt in omega (arith, first, order, b))
  none_at (y ∷ ys) (suc m) a h behind = ap (or_next y ys) (ended y (h.0 0 y (omega arith) (omega arith))) ∙ none_at ys m a.2 (rest_parts y ys m h) behind
