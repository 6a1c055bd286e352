-- Lists that are gone over item by item, each with those before it in sight.
use Rattle.std.proofs.Common.{◌≡◌, ℕ, zero, suc, ◌-◌, ◌<◌, ◌≤◌, true, List, [], ◌∷◌, ◌++◌, take, length, get_or, Option, Some, None, refl, sym, ap, subst, ◌∙◌, arith, length-append}
use Rattle.std.specs.Prelude.{slice_get, nat_lt}
use Rattle.std.specs.Option.{option_map_or}
use Rattle.std.proofs.lemmas.Bool.Decides.{nat_tests}
use Rattle.std.proofs.lemmas.List.{take-append-drop}
use Rattle.std.proofs.Math.Seq.{take-suc}
use Rattle.store_model.specs.Along.{AllAlong}
use Rattle.store_model.specs.Lists.{last_of}
use Rattle.wal_record.specs.Rules.{rises_above}
use Rattle.wal_record.proofs.Along.{AllAlong_front, AllAlong_back, AllAlong_less}

pub take_all : {A : Type 0} (xs : List A) (n : ℕ) → length xs ≤ n → take n xs ≡ xs
take_all [] zero h = refl
take_all [] (suc n) h = refl
take_all (x ∷ xs) zero h = absurd (omega (arith, h))
take_all (x ∷ xs) (suc n) h = ap (λ (ys : List _). x ∷ ys) (take_all xs n (omega (arith, h)))

pub take_none : {A : Type 0} (xs : List A) → take 0 xs ≡ []
take_none [] = refl
take_none (x ∷ xs) = refl

get_end : {A : Type 0} (xs : List A) (x : A) → slice_get (xs ++ x ∷ []) (length xs) ≡ Some x
get_end [] x = refl
get_end (y ∷ xs) x = get_end xs x

pub last_push : {A : Type 0} (xs : List A) (x : A) → last_of (xs ++ x ∷ []) ≡ Some x
last_push xs x =
    let e : length (xs ++ x ∷ []) - 1 ≡ length xs = let l = length-append xs (x ∷ []) in omega (arith, l) in
    ap (slice_get (xs ++ x ∷ [])) e ∙ get_end xs x

module _ {A : Type 0} where
  -- an item that is there doesn't depend on what stands for one that isn't
  pub item_is : (xs : List A) (i : ℕ) (d : A) → i < length xs → get_or xs i d ≡ get_or xs i (get_or xs i d)
  item_is [] i d lt = absurd (omega (arith, lt))
  item_is (x ∷ xs) zero d lt = refl
  item_is (x ∷ xs) (suc i) d lt = same xs i d (get_or xs i d) (omega (arith, lt))
    where
      same : (xs : List A) (i : ℕ) (d e : A) → i < length xs → get_or xs i d ≡ get_or xs i e
      same [] i d e lt = absurd (omega (arith, lt))
      same (x ∷ xs) zero d e lt = refl
      same (x ∷ xs) (suc i) d e lt = same xs i d e (omega (arith, lt))

  pub last_taken : (xs : List A) (i : ℕ) (d : A) → i < length xs → last_of (take (suc i) xs) ≡ Some (get_or xs i d)
  last_taken xs i d lt = ap last_of (take-suc xs i d lt) ∙ last_push (take i xs) (get_or xs i d)

  module _ (P : List A → A → Type 0) where
    -- one item further
    pub along_more : (xs : List A) (i m : ℕ) (x : A) → x ≡ get_or xs i x → m ≡ suc i → i < length xs → AllAlong P (take i xs) → P (take i xs) x → AllAlong P (take m xs)
    along_more xs i m x is next lt before one =
        subst (AllAlong P) (sym (ap (λ (k : ℕ). take k xs) next ∙ take-suc xs i x lt ∙ ap (λ (y : A). take i xs ++ y ∷ []) (sym is))) (AllAlong_back P (take i xs) x before one)

    -- what holds of all holds of each
    pub along_at : (xs : List A) (i : ℕ) (x : A) → x ≡ get_or xs i x → i < length xs → AllAlong P xs → P (take i xs) x
    along_at xs i x is lt all =
        let begun = AllAlong_less P (take (suc i) xs) _ (subst (AllAlong P) (sym (take-append-drop (suc i) xs)) all) in
        subst (P (take i xs)) (sym is) (AllAlong_front P (take i xs) (get_or xs i x) (subst (AllAlong P) (take-suc xs i x lt) begun)).1

    along_empty : AllAlong P []
    unfolding AllAlong
    along_empty = tt

    pub along_none : (xs : List A) → AllAlong P (take 0 xs)
    along_none xs = subst (AllAlong P) (sym (take_none xs)) along_empty

    pub along_whole : (xs : List A) (i : ℕ) → length xs ≤ i → AllAlong P (take i xs) → AllAlong P xs
    along_whole xs i le h = subst (AllAlong P) (take_all xs i le) h

-- ---- numbers that rise

module _ {A : Type 0} (number : A → ℕ) where
  -- the number of the last item, 0 where there is none
  abbrev pub top : List A → ℕ
  top xs = option_map_or number (last_of xs) 0

  pub top_more : (xs : List A) (i m : ℕ) (x : A) → x ≡ get_or xs i x → m ≡ suc i → i < length xs → number x ≡ top (take m xs)
  top_more xs i m x is next lt = sym (ap (λ (k : ℕ). top (take k xs)) next ∙ ap (λ (o : Option A). option_map_or number o 0) (last_taken xs i x lt) ∙ ap number (sym is))

  pub rises : (before : List A) (n : ℕ) → top before < n → rises_above number before n ≡ true
  rises before n = by (last_of before)
    where
      by : (o : Option A) → option_map_or number o 0 < n → option_map_or (λ x. nat_lt (number x) n) o true ≡ true
      by None h = refl
      by (Some x) h = grind (arith, nat_tests)

  pub risen : (before : List A) (n : ℕ) → 1 ≤ n → rises_above number before n ≡ true → top before < n
  risen before n one = by (last_of before)
    where
      by : (o : Option A) → option_map_or (λ x. nat_lt (number x) n) o true ≡ true → option_map_or number o 0 < n
      by None h = omega (arith, one)
      by (Some x) h = grind (arith, nat_tests)
