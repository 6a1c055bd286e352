-- A test of each item, one by one.
use Rattle.std.proofs.Common.{◌≡◌, ℕ, zero, suc, ◌+◌, ◌<◌, ◌≤◌, List, [], ◌∷◌, length, take, get_or, Bool, true, refl, subst, arith}
use Rattle.std.specs.List.{list_all}
use Rattle.store_model.proofs.Bools.{and_true, both_true}

module _ {A : Type 0} (p : A → Bool) where
  pub all_begin : (xs : List A) → list_all p (take 0 xs) ≡ true
  all_begin [] = refl
  all_begin (x ∷ xs) = refl

  pub all_not : (xs : List A) (i : ℕ) (d : A) → i < length xs → list_all p xs ≡ true → p (get_or xs i d) ≡ true
  all_not [] i d lt all = absurd (omega (arith, lt))
  all_not (x ∷ xs) zero d lt all = (both_true (p x) (list_all p xs) all).0
  all_not (x ∷ xs) (suc i) d lt all = all_not xs i d (omega (arith, lt)) (both_true (p x) (list_all p xs) all).1

  all_suc : (xs : List A) (i : ℕ) (d : A) → i < length xs → list_all p (take i xs) ≡ true → p (get_or xs i d) ≡ true → list_all p (take (suc i) xs) ≡ true
  all_suc [] i d lt all one = absurd (omega (arith, lt))
  all_suc (x ∷ xs) zero d lt all one = and_true (p x) (list_all p (take 0 xs)) one (all_begin xs)
  all_suc (x ∷ xs) (suc i) d lt all one = let both = both_true (p x) (list_all p (take i xs)) all in and_true (p x) (list_all p (take (suc i) xs)) both.0 (all_suc xs i d (omega (arith, lt)) both.1 one)

  pub all_more : (xs : List A) (i : ℕ) (d : A) → i < length xs → list_all p (take i xs) ≡ true → p (get_or xs i d) ≡ true → list_all p (take (i + 1) xs) ≡ true
  all_more xs i d lt all one = subst (λ (n : ℕ). list_all p (take n xs) ≡ true) (let e : suc i ≡ i + 1 = omega arith in e) (all_suc xs i d lt all one)

  pub all_end : (xs : List A) (i : ℕ) → length xs ≤ i → list_all p (take i xs) ≡ true → list_all p xs ≡ true
  all_end [] i le all = refl
  all_end (x ∷ xs) zero le all = absurd (omega (arith, le))
  all_end (x ∷ xs) (suc i) le all = let both = both_true (p x) (list_all p (take i xs)) all in and_true (p x) (list_all p xs) both.0 (all_end xs i (omega (arith, le)) both.1)
