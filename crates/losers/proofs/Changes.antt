-- All items of a list changed, one after the other; the first item of a kind.
use Rattle.std.proofs.Common.{◌≡◌, ℕ, ◌<◌, ◌≤◌, zero, suc, List, [], ◌∷◌, ◌++◌, map, length, take, drop, slice_set, slice_index_or, subst, refl, sym, ap, ◌∙◌, arith, Bool, true, false, cond, Some, None}
use Rattle.std.specs.List.{find}
use Rattle.std.proofs.lemmas.Grind.{common_steps}

module _ {A : Type 0} (f : A → A) where
  -- so many items from the first on
  abbrev pub changed : ℕ → List A → List A
  changed n [] = []
  changed zero (x ∷ xs) = x ∷ xs
  changed (suc n) (x ∷ xs) = f x ∷ changed n xs

  pub none_changed : (xs : List A) → changed 0 xs ≡ xs
  none_changed [] = refl
  none_changed (x ∷ xs) = refl

  changed_more : (n : ℕ) (xs : List A) (d : A) → slice_set (changed n xs) n (f (slice_index_or (changed n xs) n d)) ≡ changed (suc n) xs
  changed_more n [] d = refl
  changed_more zero (x ∷ xs) d = ap (λ (zs : List A). f x ∷ zs) (sym (none_changed xs))
  changed_more (suc n) (x ∷ xs) d = ap (λ (zs : List A). f x ∷ zs) (changed_more n xs d)

  pub one_changed : (n m : ℕ) (now xs : List A) (d y : A) → now ≡ changed n xs → m ≡ suc n → y ≡ f (slice_index_or now n d) → slice_set now n y ≡ changed m xs
  one_changed n m now xs d y h e is =
      ap (slice_set now n) is ∙ ap (λ (l : List A). slice_set l n (f (slice_index_or l n d))) h ∙ changed_more n xs d ∙ sym (ap (λ (k : ℕ). changed k xs) e)

  changed_length : (n : ℕ) (xs : List A) → length (changed n xs) ≡ length xs
  changed_length n [] = refl
  changed_length zero (x ∷ xs) = refl
  changed_length (suc n) (x ∷ xs) = ap (λ (k : ℕ). suc k) (changed_length n xs)

  each_changed : (n : ℕ) (xs : List A) → length xs ≤ n → changed n xs ≡ map f xs
  each_changed n [] h = refl
  each_changed zero (x ∷ xs) h = absurd (omega (arith, h))
  each_changed (suc n) (x ∷ xs) h = ap (λ (zs : List A). f x ∷ zs) (each_changed n xs (omega (arith, h)))

  -- so many items, where there are no more
  as_many : (xs ys : List A) → length xs ≡ length ys → take (length ys) (xs ++ drop (length xs) ys) ≡ xs
  as_many xs ys e = grind (arith, common_steps)

  pub all_changed : (n len : ℕ) (now xs : List A) → now ≡ changed n xs → length xs ≡ len → len ≤ n → take len (now ++ drop (length now) xs) ≡ map f xs
  all_changed n len now xs h e l =
      let size : length now ≡ length xs = ap length h ∙ changed_length n xs in
      subst (λ (k : ℕ). take k (now ++ drop (length now) xs) ≡ map f xs) e (as_many now xs size ∙ h ∙ each_changed n xs (omega (arith, e, l)))

-- ---- the first of a kind

module _ {A : Type 0} (p : A → Bool) where
  pub found_at : (i : ℕ) (xs : List A) (d : A) → find p (take i xs) ≡ None → i < length xs → p (slice_index_or xs i d) ≡ true → Some (slice_index_or xs i d) ≡ find p xs
  found_at i [] d none lt is = absurd (omega (arith, lt))
  found_at zero (x ∷ xs) d none lt is = sym (ap (λ (b : Bool). cond b (Some x) (find p xs)) is)
  found_at (suc i) (x ∷ xs) d none lt is = by (p x) none (λ rest. found_at i xs d rest (omega (arith, lt)) is)
    where
      by : (b : Bool) → cond b (Some x) (find p (take i xs)) ≡ None → (find p (take i xs) ≡ None → Some (slice_index_or xs i d) ≡ find p xs) → Some (slice_index_or xs i d) ≡ cond b (Some x) (find p xs)
      by true none rest = absurd (cc none)
      by false none rest = rest none

  passed : (i : ℕ) (xs : List A) (d : A) → find p (take i xs) ≡ None → i < length xs → p (slice_index_or xs i d) ≡ false → find p (take (suc i) xs) ≡ None
  passed i [] d none lt is = refl
  passed zero (x ∷ xs) d none lt is = ap (λ (b : Bool). cond b (Some x) None) is
  passed (suc i) (x ∷ xs) d none lt is = by (p x) none (λ rest. passed i xs d rest (omega (arith, lt)) is)
    where
      by : (b : Bool) → cond b (Some x) (find p (take i xs)) ≡ None → (find p (take i xs) ≡ None → find p (take (suc i) xs) ≡ None) → cond b (Some x) (find p (take (suc i) xs)) ≡ None
      by true none rest = absurd (cc none)
      by false none rest = rest none

  pub one_passed : (i m : ℕ) (xs : List A) (d : A) → m ≡ suc i → find p (take i xs) ≡ None → i < length xs → p (slice_index_or xs i d) ≡ false → find p (take m xs) ≡ None
  one_passed i m xs d e none lt is = ap (λ (k : ℕ). find p (take k xs)) e ∙ passed i xs d none lt is
