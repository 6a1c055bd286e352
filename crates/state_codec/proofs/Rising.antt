-- Items that each stand in order behind the last one before them rise; and the bytes they take.
use Rattle.std.proofs.Common.{◌≡◌, ℕ, ◌+◌, ◌-◌, ◌≤◌, Bool, true, leb, List, [], ◌∷◌, ◌++◌, length, slice_get, Option, Some, None, refl, sym, ap, subst, ◌∙◌, arith, Ordering, Less, Equal, Greater}
use Rattle.std.specs.Prelude.{IsTrue}
use Rattle.std.specs.List.{list_all, sum_by, fold}
use Rattle.std.specs.Option.{option_map_or}
use Rattle.std.specs.Ordering.{nat_cmp, is_lt}
use Rattle.std.specs.Cmp.Lexicographic.{slice_cmp, nat_list_cmp_total}
use Rattle.std.proofs.lemmas.Bool.Decides.{nat_tests}
use Rattle.std.proofs.lemmas.List.{length-append}
use Rattle.store_model.specs.Along.{AllFrom}
use Rattle.store_model.specs.Lists.{last_of}
use Rattle.store_model.specs.Range.{is_below}
use Rattle.store_model.proofs.Bools.{both_true, and_true}
use Rattle.wal_record.specs.State.{rises}

-- ---- bounds

less : (o : Ordering) → is_lt o ≡ true → o ≡ Less
less Less e = refl
less Equal e = absurd cc
less Greater e = absurd cc

pub below_trans : (a b c : Option (List ℕ)) → is_below a b ≡ true → is_below b c ≡ true → is_below a c ≡ true
below_trans None b c p q = absurd cc
below_trans (Some a) None c p q = absurd cc
below_trans (Some a) (Some b) None p q = refl
below_trans (Some a) (Some b) (Some c) p q = ap is_lt (nat_list_cmp_total.trans a b c (less (slice_cmp nat_cmp a b) p) (less (slice_cmp nat_cmp b c) q))

-- ---- the last item

end_of_push : {A : Type 0} (xs : List A) (x : A) → slice_get (xs ++ x ∷ []) (length xs) ≡ Some x
end_of_push [] x = refl
end_of_push (y ∷ xs) x = end_of_push xs x

pub last_push : {A : Type 0} (xs : List A) (x : A) → last_of (xs ++ x ∷ []) ≡ Some x
last_push xs x =
    let len : length (xs ++ x ∷ []) - 1 ≡ length xs = omega (arith, length-append xs (x ∷ [])) in
    ap (λ (n : ℕ). slice_get (xs ++ x ∷ []) n) len ∙ end_of_push xs x

-- ---- rising

module _ {A : Type 0} (below : A → A → Bool) (trans : (a b c : A) → below a b ≡ true → below b c ≡ true → below a c ≡ true) (first : A → Bool) where
  -- behind the last one, or fit to be the first
  abbrev pub follows : List A → A → Bool
  follows before x = option_map_or (λ (p : A). below p x) (last_of before) (first x)

  abbrev AllAbove : Option A → List A → Type 0
  AllAbove None xs = Unit {0}
  AllAbove (Some p) xs = IsTrue (list_all (below p) xs)

  above_too : (p x : A) (xs : List A) → below p x ≡ true → list_all (below x) xs ≡ true → list_all (below p) xs ≡ true
  above_too p x [] lt h = refl
  above_too p x (y ∷ xs) lt h = let both = both_true (below x y) (list_all (below x) xs) h in and_true (below p y) (list_all (below p) xs) (trans p x y lt both.0) (above_too p x xs lt both.1)

  above_all : (o : Option A) (x : A) (xs : List A) → option_map_or (λ (p : A). below p x) o (first x) ≡ true → list_all (below x) xs ≡ true → AllAbove o (x ∷ xs)
  above_all None x xs h all = tt
  above_all (Some p) x xs h all = and_true (below p x) (list_all (below p) xs) h (above_too p x xs h all)

  above_nothing : (o : Option A) → AllAbove o []
  above_nothing None = tt
  above_nothing (Some p) = refl

  rise_from : (before xs : List A) → AllFrom (λ b x. IsTrue (follows b x)) before xs → IsTrue (rises below xs) × AllAbove (last_of before) xs
  rise_from before [] h = (refl, above_nothing (last_of before))
  rise_from before (x ∷ xs) h =
      let more = rise_from (before ++ x ∷ []) xs h.1 in
      let all : list_all (below x) xs ≡ true = subst (λ (o : Option A). AllAbove o xs) (last_push before x) more.1 in
      (and_true (list_all (below x) xs) (rises below xs) all more.0, above_all (last_of before) x xs h.0 all)

  pub they_rise : (xs : List A) → AllFrom (λ b x. IsTrue (follows b x)) [] xs → IsTrue (rises below xs)
  they_rise xs h = (rise_from [] xs h).0

  one_follows : (o : Option A) (x : A) (xs : List A) → (o ≡ None → first x ≡ true) → AllAbove o (x ∷ xs) → option_map_or (λ (p : A). below p x) o (first x) ≡ true
  one_follows None x xs f h = f refl
  one_follows (Some p) x xs f h = (both_true (below p x) (list_all (below p) xs) h).0

  Head : List A → Type 0
  Head [] = Unit {0}
  Head (x ∷ xs) = IsTrue (first x)

  follow_from : (before xs : List A) → (last_of before ≡ None → Head xs) → IsTrue (rises below xs) → AllAbove (last_of before) xs → AllFrom (λ b x. IsTrue (follows b x)) before xs
  unfolding Head
  follow_from before [] f h above = tt
  follow_from before (x ∷ xs) f h above =
      let both = both_true (list_all (below x) xs) (rises below xs) h in
      let never : last_of (before ++ x ∷ []) ≡ None → Head xs = λ e. absurd (some_none (sym (last_push before x) ∙ e)) in
      (one_follows (last_of before) x xs f above, follow_from (before ++ x ∷ []) xs never both.1 (subst (λ (o : Option A). AllAbove o xs) (sym (last_push before x)) both.0))
    where
      some_none : {B : Type 0} {y : B} → Some y ≡ None → ⊥
      some_none e = absurd cc

  pub they_follow : (xs : List A) → ((x : A) → slice_get xs 0 ≡ Some x → first x ≡ true) → IsTrue (rises below xs) → AllFrom (λ b x. IsTrue (follows b x)) [] xs
  unfolding Head
  they_follow [] f h = tt
  they_follow (x ∷ xs) f h = follow_from [] (x ∷ xs) (λ _. f x refl) h tt

-- ---- bytes

module _ {A : Type 0} (size : A → ℕ) where
  fold_from : (a : ℕ) (xs : List A) → fold (λ n y. n + size y) a xs ≡ a + sum_by size xs
  fold_from a [] = omega arith
  fold_from a (x ∷ xs) =
      let none : 0 + size x ≡ size x = omega arith in
      let two : sum_by size (x ∷ xs) ≡ size x + sum_by size xs = ap (λ (n : ℕ). fold (λ n y. n + size y) n xs) none ∙ fold_from (size x) xs in
      let sums : a + size x + sum_by size xs ≡ a + sum_by size (x ∷ xs) = omega arith in
      fold_from (a + size x) xs ∙ sums

  pub sum_cons : (x : A) (xs : List A) → sum_by size (x ∷ xs) ≡ size x + sum_by size xs
  sum_cons x xs = let none : 0 + size x ≡ size x = omega arith in ap (λ (n : ℕ). fold (λ n y. n + size y) n xs) none ∙ fold_from (size x) xs

  pub sum_push : (xs : List A) (x : A) → sum_by size (xs ++ x ∷ []) ≡ sum_by size xs + size x
  sum_push xs x = by 0 xs
    where
      by : (a : ℕ) (xs : List A) → fold (λ n y. n + size y) a (xs ++ x ∷ []) ≡ fold (λ n y. n + size y) a xs + size x
      by a [] = refl
      by a (y ∷ xs) = by (a + size y) xs

  pub no_longer : ((x : A) → 1 ≤ size x) → (xs : List A) → length xs ≤ sum_by size xs
  no_longer one [] = omega arith
  no_longer one (x ∷ xs) = let more = no_longer one xs in omega (arith, one x, sum_cons x xs)

  pub they_fit : (room used : ℕ) (before xs : List A) → used + sum_by size before ≤ room → AllFrom (λ b x. IsTrue (leb (used + sum_by size b + size x) room)) before xs → used + sum_by size before + sum_by size xs ≤ room
  they_fit room used before [] le h = omega arith
  they_fit room used before (x ∷ xs) le h =
      let here : used + sum_by size before + size x ≤ room = le_true (used + sum_by size before + size x) room h.0 in
      let more = they_fit room used (before ++ x ∷ []) xs (omega (arith, sum_push before x)) h.1 in
      omega (arith, sum_push before x, sum_cons x xs)
    where
      le_true : (m n : ℕ) → leb m n ≡ true → m ≤ n
      le_true m n h = grind (arith, nat_tests)

  pub each_fits : (room used : ℕ) (before xs : List A) → used + sum_by size before + sum_by size xs ≤ room → AllFrom (λ b x. IsTrue (leb (used + sum_by size b + size x) room)) before xs
  each_fits room used before [] le = tt
  each_fits room used before (x ∷ xs) le =
      (is_true (used + sum_by size before + size x) room (omega (arith, sum_cons x xs)), each_fits room used (before ++ x ∷ []) xs (omega (arith, sum_cons x xs, sum_push before x)))
    where
      is_true : (m n : ℕ) → m ≤ n → leb m n ≡ true
      is_true m n h = grind (arith, nat_tests)

-- ---- what is said of each item

module _ {A : Type 0} where
  pub each : (P Q : List A → A → Type 0) → ((b : List A) (x : A) → P b x → Q b x) → (before xs : List A) → AllFrom P before xs → AllFrom Q before xs
  each P Q f before [] h = tt
  each P Q f before (x ∷ xs) h = (f before x h.0, each P Q f (before ++ x ∷ []) xs h.1)

  pub both : (P Q : List A → A → Type 0) (before xs : List A) → AllFrom P before xs → AllFrom Q before xs → AllFrom (λ b x. P b x × Q b x) before xs
  both P Q before [] p q = tt
  both P Q before (x ∷ xs) p q = ((p.0, q.0), both P Q (before ++ x ∷ []) xs p.1 q.1)

  pub all_from : (f : A → Bool) (before xs : List A) → AllFrom (λ b x. IsTrue (f x)) before xs → IsTrue (list_all f xs)
  all_from f before [] h = refl
  all_from f before (x ∷ xs) h = and_true (f x) _ h.0 (all_from f (before ++ x ∷ []) xs h.1)

  pub from_all : (f : A → Bool) (before xs : List A) → IsTrue (list_all f xs) → AllFrom (λ b x. IsTrue (f x)) before xs
  from_all f before [] h = tt
  from_all f before (x ∷ xs) h = let both = both_true (f x) (list_all f xs) h in (both.0, from_all f (before ++ x ∷ []) xs both.1)
