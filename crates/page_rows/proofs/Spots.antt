-- What a binary search finds among rows that rise.
use Rattle.std.proofs.Common.{◌≡◌, ℕ, zero, suc, ◌<◌, ◌≤◌, Bool, true, false, List, [], ◌∷◌, length, get_or, Option, Some, None, Result, Ok, Err, refl, ap, subst, ◌∙◌, arith, Ordering, Less, Equal, Greater, inl, inr}
use Rattle.std.specs.List.{list_all}
use Rattle.std.specs.List.Sorted.{IsSearchInRange, IsBinarySearchResult, IsNonDecreasingBy}
use Rattle.std.specs.Ordering.{nat_cmp, is_lt, ordering_reverse, ordering_index}
use Rattle.std.specs.Cmp.Lexicographic.{slice_cmp, nat_list_cmp_total}
use Rattle.std.proofs.lemmas.Bool.{and_parts, cases_lt}
use Rattle.std.proofs.lemmas.Cmp.{tied_itself}
use Rattle.std.proofs.lemmas.Map.Lookups.{exact_bytes}
use Rattle.store_model.specs.Range.{is_below}
use Rattle.wal_record.specs.State.{rises}
use Rattle.page_rows.specs.Rows.{bound_cmp, IsSpotIn}
use Rattle.page_rows.specs.declared.spot.Spot.{Spot}
use Rattle.page_rows.specs.declared.spot.Spot.TheVariants.{Here, Gap}

-- ---- bounds

less : (o : Ordering) → is_lt o ≡ true → o ≡ Less
less Less e = refl
less Equal e = absurd cc
less Greater e = absurd cc

pub below_trans : (a b c : Option (List ℕ)) → is_below a b ≡ true → is_below b c ≡ true → is_below a c ≡ true
below_trans None b c p q = absurd cc
below_trans (Some a) None c p q = absurd cc
below_trans (Some a) (Some b) None p q = refl
below_trans (Some a) (Some b) (Some c) p q = ap is_lt (nat_list_cmp_total.trans a b c (less (slice_cmp nat_cmp a b) p) (less (slice_cmp nat_cmp b c) q))

-- a text above another compares as greater
pub above_is : (a b : List ℕ) → is_below (Some a) (Some b) ≡ true → slice_cmp nat_cmp b a ≡ Greater
above_is a b p = nat_list_cmp_total.antisymm b a ∙ ap ordering_reverse (less (slice_cmp nat_cmp a b) p)

pub below_is : (a b : List ℕ) → is_below (Some a) (Some b) ≡ true → slice_cmp nat_cmp a b ≡ Less
below_is a b p = less (slice_cmp nat_cmp a b) p

pub below_itself : (a : List ℕ) → is_below (Some a) (Some a) ≡ false
below_itself a = ap is_lt (tied_itself nat_list_cmp_total a)

at_equal : (b : Option (List ℕ)) (key : List ℕ) → bound_cmp b key ≡ Equal → b ≡ Some key
at_equal None key e = absurd cc
at_equal (Some t) key e = ap (λ (k : List ℕ). Some k) (exact_bytes t key e)

at_less : (b : Option (List ℕ)) (key : List ℕ) → bound_cmp b key ≡ Less → is_below b (Some key) ≡ true
at_less None key e = absurd cc
at_less (Some t) key e = ap is_lt e

at_greater : (b : Option (List ℕ)) (key : List ℕ) → bound_cmp b key ≡ Greater → is_below (Some key) b ≡ true
at_greater None key e = refl
at_greater (Some t) key e = ap is_lt (nat_list_cmp_total.antisymm key t ∙ ap ordering_reverse e)

greater_at : (b : Option (List ℕ)) (key : List ℕ) → is_below (Some key) b ≡ true → bound_cmp b key ≡ Greater
greater_at None key e = refl
greater_at (Some t) key e = above_is key t e

-- a greater bound compares as greater
rises_by : (a b : Option (List ℕ)) (key : List ℕ) → is_below a b ≡ true → ordering_index (bound_cmp a key) ≤ ordering_index (bound_cmp b key)
rises_by a b key p = by (bound_cmp a key) refl
  where
    by : (o : Ordering) → bound_cmp a key ≡ o → ordering_index (bound_cmp a key) ≤ ordering_index (bound_cmp b key)
    by Less e = rw e (omega arith)
    by Equal e = rw (e, greater_at b key (subst (λ (x : Option (List ℕ)). is_below x b ≡ true) (at_equal a key e) p)) (omega arith)
    by Greater e = rw (e, greater_at b key (below_trans (Some key) a b (at_greater a key e) p)) (omega arith)

-- ---- rows that rise

pub all_at : {A : Type 0} (f : A → Bool) (xs : List A) (i : ℕ) (d : A) → list_all f xs ≡ true → i < length xs → f (get_or xs i d) ≡ true
all_at f [] i d a lt = absurd (omega arith)
all_at f (x ∷ xs) zero d a lt = (and_parts _ _ a).0
all_at f (x ∷ xs) (suc i) d a lt = all_at f xs i d (and_parts _ _ a).1 (omega arith)

pub rises_at : {A : Type 0} (below : A → A → Bool) (xs : List A) (i j : ℕ) (d : A) → rises below xs ≡ true → i < j → j < length xs → below (get_or xs i d) (get_or xs j d) ≡ true
rises_at below [] i j d a lt h = absurd (omega arith)
rises_at below (x ∷ xs) i zero d a lt h = absurd (omega arith)
rises_at below (x ∷ xs) zero (suc j) d a lt h = all_at (below x) xs j d (and_parts _ _ a).0 (omega arith)
rises_at below (x ∷ xs) (suc i) (suc j) d a lt h = rises_at below xs i j d (and_parts _ _ a).1 (omega arith) (omega arith)

-- ---- a search

abbrev pub spot_of : Result ℕ ℕ → Spot
spot_of (Ok i) = Here i
spot_of (Err i) = Gap i

module _ {A : Type 0} (begin : A → Option (List ℕ)) (key : List ℕ) (rows : List A) (rise : rises (λ a b. is_below (begin a) (begin b)) rows ≡ true) where
  never_falls : IsNonDecreasingBy (λ row. ordering_index (bound_cmp (begin row) key)) rows
  never_falls i j d le lt = elim (cases_lt i j) [
    | inl before ↦ rises_by (begin (get_or rows i d)) (begin (get_or rows j d)) key (rises_at (λ a b. is_below (begin a) (begin b)) rows i j d rise before lt)
    | inr after ↦ let same : i ≡ j = omega arith in subst (λ (k : ℕ). ordering_index (bound_cmp (begin (get_or rows i d)) key) ≤ ordering_index (bound_cmp (begin (get_or rows k d)) key)) same (omega arith)
  ]

  pub found : (r : Result ℕ ℕ) → IsSearchInRange r (length rows) → IsBinarySearchResult (λ row. bound_cmp (begin row) key) rows r → IsSpotIn begin key rows (spot_of r)
  found (Ok i) range h = (omega (arith, range), λ d. at_equal (begin (get_or rows i d)) key (h d))
  found (Err i) range h = let p = h never_falls in (range, (λ k d low lt. at_less (begin (get_or rows k d)) key (p.0 k d low lt), λ k d low lt. at_greater (begin (get_or rows k d)) key (p.1 k d low lt)))
