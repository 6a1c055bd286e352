-- The pairs of two neighbouring ranges, one after the other, are those of the range that they make up.
use Rattle.std.proofs.Common.{◌≡◌, ℕ, Bool, true, false, cond, List, [], ◌∷◌, ◌++◌, Option, Some, None, refl, sym, ap, ◌∙◌}
use Rattle.std.specs.Prelude.{◌&&◌, T, not, is_some}
use Rattle.std.specs.List.{list_all}
use Rattle.std.specs.Option.{option_or}
use Rattle.std.specs.Ordering.{nat_cmp}
use Rattle.std.specs.Cmp.Lexicographic.{slice_cmp, nat_list_cmp_total}
use Rattle.std.specs.FinMap.{get, entries, retain_keys, find, is_sorted, get-entries, entries_sorted, get-retain_keys}
use Rattle.std.specs.FinMap.Entries.{below_all}
use Rattle.std.proofs.lemmas.Bool.{and_parts, and_from}
use Rattle.std.proofs.lemmas.Cmp.{tied_itself}
use Rattle.std.proofs.lemmas.List.{map-append}
use Rattle.std.proofs.lemmas.Map.Lookups.{exact_bytes}
use Rattle.store_model.specs.Range.{Interval, is_below, has_key}
use Rattle.store_model.specs.Contents.{Contents, pair_of, pairs_in}
use Rattle.store_model.proofs.Bools.{not_true}
use Rattle.store_model.proofs.Ranges.{not_beneath}
use Rattle.store_model.proofs.Scans.{pairs_in_is}
use Rattle.wal_record.specs.State.{same_key}
use Rattle.log_laws.proofs.Locked.{above}
use Rattle.tree_laws.specs.Scan.{NeighboursLaw}

is_true : (b : Bool) → T b → b ≡ true
is_true true h = refl
is_true false h = absurd h

abbrev Pairs : Type 0
Pairs = List (List ℕ × List ℕ)

-- ---- a list after another

below_append : (k : List ℕ) (xs ys : Pairs) → below_all (slice_cmp nat_cmp) k xs ≡ true → below_all (slice_cmp nat_cmp) k ys ≡ true → below_all (slice_cmp nat_cmp) k (xs ++ ys) ≡ true
below_append k [] ys a b = b
below_append k (x ∷ xs) ys a b = let p = and_parts _ _ a in and_from _ _ p.0 (below_append k xs ys p.1 b)

below_each : (k : List ℕ) (mid : Option (List ℕ)) (ys : Pairs) → is_below (Some k) mid ≡ true → list_all (λ e. not (is_below (Some e.0) mid)) ys ≡ true → below_all (slice_cmp nat_cmp) k ys ≡ true
below_each k mid [] p h = refl
below_each k mid (y ∷ ys) p h = let q = and_parts _ _ h in and_from _ _ (above k mid (Some y.0) p (not_true _ q.0)) (below_each k mid ys p q.1)

sorted_append : (mid : Option (List ℕ)) (xs ys : Pairs) → is_sorted (slice_cmp nat_cmp) xs ≡ true → is_sorted (slice_cmp nat_cmp) ys ≡ true
    → list_all (λ e. is_below (Some e.0) mid) xs ≡ true → list_all (λ e. not (is_below (Some e.0) mid)) ys ≡ true → is_sorted (slice_cmp nat_cmp) (xs ++ ys) ≡ true
sorted_append mid [] ys a b p q = b
sorted_append mid (x ∷ xs) ys a b p q =
    let s = and_parts _ _ a in
    let t = and_parts _ _ p in
    and_from _ _ (below_append x.0 xs ys s.0 (below_each x.0 mid ys t.0 q)) (sorted_append mid xs ys s.1 b t.1 q)

found_in : (xs ys : Pairs) (q : List ℕ) → find (slice_cmp nat_cmp) q (xs ++ ys) ≡ option_or (find (slice_cmp nat_cmp) q xs) (find (slice_cmp nat_cmp) q ys)
found_in [] ys q = refl
found_in (x ∷ xs) ys q = by (same_key q x.0) (found_in xs ys q)
  where
    by : (b : Bool) → find (slice_cmp nat_cmp) q (xs ++ ys) ≡ option_or (find (slice_cmp nat_cmp) q xs) (find (slice_cmp nat_cmp) q ys)
        → cond b (Some x.1) (find (slice_cmp nat_cmp) q (xs ++ ys)) ≡ option_or (cond b (Some x.1) (find (slice_cmp nat_cmp) q xs)) (find (slice_cmp nat_cmp) q ys)
    by true h = refl
    by false h = h

-- what holds of each key that is found holds of each pair
each_found : (p : List ℕ → Bool) (es : Pairs) → ((q : List ℕ) → is_some (find (slice_cmp nat_cmp) q es) ≡ true → p q ≡ true) → list_all (λ e. p e.0) es ≡ true
each_found p [] h = refl
each_found p (e ∷ es) h = and_from _ _ (h e.0 (rw (tied_itself nat_list_cmp_total e.0) refl)) (each_found p es (λ q g. h q (by q (same_key q e.0) g)))
  where
    by : (q : List ℕ) (b : Bool) → is_some (find (slice_cmp nat_cmp) q es) ≡ true → is_some (cond b (Some e.1) (find (slice_cmp nat_cmp) q es)) ≡ true
    by q true g = refl
    by q false g = g

-- ---- the pairs of a range

found_within : (r : Interval) (m : Contents) (q : List ℕ) → find (slice_cmp nat_cmp) q (entries (retain_keys m (has_key r))) ≡ cond (has_key r q) (get m q) None
found_within r m q = sym (get-entries (retain_keys m (has_key r)) q) ∙ get-retain_keys m (has_key r) q (λ x e. ap (has_key r) (sym (exact_bytes q x e)))

each_within : (r : Interval) (m : Contents) → list_all (λ e. has_key r e.0) (entries (retain_keys m (has_key r))) ≡ true
each_within r m = each_found (has_key r) (entries (retain_keys m (has_key r))) (λ q h. by (has_key r q) (get m q) (sym (ap is_some (found_within r m q)) ∙ h))
  where
    by : (b : Bool) (x : Option (List ℕ)) → is_some (cond b x None) ≡ true → b ≡ true
    by true x h = refl
    by false x h = absurd cc

all_imply : (p q : List ℕ × List ℕ → Bool) (es : Pairs) → ((e : List ℕ × List ℕ) → p e ≡ true → q e ≡ true) → list_all p es ≡ true → list_all q es ≡ true
all_imply p q [] h a = refl
all_imply p q (e ∷ es) h a = let b = and_parts _ _ a in and_from _ _ (h e b.0) (all_imply p q es h b.1)

module _ (low mid high : Option (List ℕ)) (lower : is_below mid low ≡ false) (higher : is_below high mid ≡ false) (m : Contents) where
  abbrev first : Interval
  first = record { low = low; high = mid }

  abbrev second : Interval
  second = record { low = mid; high = high }

  abbrev whole : Interval
  whole = record { low = low; high = high }

  -- a key is in the first range, the second one, or none
  split : (q : List ℕ) → option_or (cond (has_key first q) (get m q) None) (cond (has_key second q) (get m q) None) ≡ cond (has_key whole q) (get m q) None
  split q = by (is_below (Some q) mid) refl (is_below (Some q) low) refl
    where
      some : (x : Option (List ℕ)) → option_or x None ≡ x
      some None = refl
      some (Some v) = refl

      by : (a : Bool) → is_below (Some q) mid ≡ a → (b : Bool) → is_below (Some q) low ≡ b
          → option_or (cond (not b && a) (get m q) None) (cond (not a && is_below (Some q) high) (get m q) None) ≡ cond (not b && is_below (Some q) high) (get m q) None
      by true e true f = refl
      by true e false f = some (get m q) ∙ ap (λ (c : Bool). cond c (get m q) None) (sym (above q mid high e higher))
      by false e true f = let g = not_beneath q mid low e lower in let x : true ≡ false = sym f ∙ g in absurd cc
      by false e false f = refl

  pub neighbours : pairs_in first m ++ pairs_in second m ≡ pairs_in whole m
  neighbours =
      let xs = entries (retain_keys m (has_key first)) in
      let ys = entries (retain_keys m (has_key second)) in
      sym (map-append pair_of xs ys)
      ∙ sym (pairs_in_is whole m (xs ++ ys)
      (sorted_append mid xs ys (is_true _ (entries_sorted (retain_keys m (has_key first)))) (is_true _ (entries_sorted (retain_keys m (has_key second))))
      (all_imply _ _ xs (λ e h. (and_parts _ _ h).1) (each_within first m)) (all_imply _ _ ys (λ e h. (and_parts _ _ h).0) (each_within second m)))
      (λ q. found_in xs ys q ∙ ap (λ (x : Option (List ℕ)). option_or x (find (slice_cmp nat_cmp) q ys)) (found_within first m q) ∙ ap (λ (x : Option (List ℕ)). option_or (cond (has_key first q) (get m q) None) x) (found_within second m q) ∙ split q))

pub neighbours_law : (low mid high : Option (List ℕ)) (m : Contents) → NeighboursLaw low mid high m
neighbours_law low mid high m = record { joined = λ lower higher. neighbours low mid high lower higher m }
