-- The rows of a leaf between two bounds.
use Rattle.std.proofs.Common.{◌≡◌, ℕ, zero, suc, ◌≤◌, Bool, true, false, cond, List, [], ◌∷◌, ◌++◌, length, take, drop, Option, Some, refl, sym, ap, ◌∙◌, arith, append-nil}
use Rattle.std.specs.Prelude.{◌&&◌, not, slice_index_or}
use Rattle.std.specs.List.{list_all, AllWithin}
use Rattle.std.specs.List.Sorted.{IsPartitionedBy}
use Rattle.std.proofs.lemmas.Bool.{and_parts, and_from}
use Rattle.std.proofs.lemmas.List.{take-append-drop}
use Rattle.std.proofs.lemmas.List.Folds.{list_all-append}
use Rattle.std.proofs.lemmas.List.Sums.{AllPass-from_list_all}
use Rattle.store_model.specs.Range.{has_key, is_below}
use Rattle.store_model.proofs.Bools.{not_true}
use Rattle.wal_record.specs.State.{leaf_below, rises}
use Rattle.wal_record.specs.declared.page.LeafRow.{LeafRow}
use Rattle.log_laws.proofs.Locked.{below_trans}
use Rattle.tree_laws.specs.Scan.{live_entries}
use Rattle.foster_tree.proofs.Gathering.{entries_append}

abbrev pub under : Option (List ℕ) → LeafRow → Bool
under bound row = is_below (Some row.key) bound

abbrev pub over : Option (List ℕ) → LeafRow → Bool
over bound row = not (is_below (Some row.key) bound)

-- ---- where rows that rise are cut

parts_pass : {A : Type 0} (f : A → Bool) (xs : List A) (n : ℕ) → list_all f xs ≡ true → (list_all f (take n xs) ≡ true) × (list_all f (drop n xs) ≡ true)
parts_pass f xs n h = and_parts _ _ (sym (list_all-append f (take n xs) (drop n xs)) ∙ ap (list_all f) (take-append-drop n xs) ∙ h)

pub first_rise : (rows : List LeafRow) (n : ℕ) → rises leaf_below rows ≡ true → rises leaf_below (take n rows) ≡ true
first_rise [] zero h = refl
first_rise [] (suc n) h = refl
first_rise (row ∷ rows) zero h = refl
first_rise (row ∷ rows) (suc n) h = let p = and_parts _ _ h in and_from _ _ (parts_pass (leaf_below row) rows n p.0).0 (first_rise rows n p.1)

pub cut : (bound : Option (List ℕ)) (rows : List LeafRow) → rises leaf_below rows ≡ true → IsPartitionedBy (under bound) rows
cut bound [] h i j d le lt below = absurd (omega (arith, lt))
cut bound (row ∷ rows) h zero zero d le lt below = below
cut bound (row ∷ rows) h zero (suc j) d le lt below = below_trans (Some row.key) (Some (slice_index_or rows j d).key) bound (AllPass-from_list_all (leaf_below row) rows (and_parts _ _ h).0 j d (omega (arith, lt))) below
cut bound (row ∷ rows) h (suc i) zero d le lt below = absurd (omega (arith, le))
cut bound (row ∷ rows) h (suc i) (suc j) d le lt below = cut bound rows (and_parts _ _ h).1 i j d (omega (arith, le)) (omega (arith, lt)) below

pub first_pass : (f : LeafRow → Bool) (rows : List LeafRow) (n : ℕ) → n ≤ length rows → AllWithin (λ row. f row ≡ true) rows 0 n → list_all f (take n rows) ≡ true
first_pass f [] zero le h = refl
first_pass f [] (suc n) le h = refl
first_pass f (row ∷ rows) zero le h = refl
first_pass f (row ∷ rows) (suc n) le h = and_from _ _ (h 0 row (omega arith) (omega arith)) (first_pass f rows n (omega (arith, le)) (λ k d a b. h (suc k) d (omega arith) (omega (arith, b))))

pub others_fail : (f : LeafRow → Bool) (rows : List LeafRow) (n : ℕ) → AllWithin (λ row. f row ≡ false) rows n (length rows) → list_all (λ row. not (f row)) (drop n rows) ≡ true
others_fail f [] zero h = refl
others_fail f [] (suc n) h = refl
others_fail f (row ∷ rows) zero h = and_from _ _ (ap not (h 0 row (omega arith) (omega arith))) (others_fail f rows zero (λ k d a b. h (suc k) d (omega arith) (omega (arith, b))))
others_fail f (row ∷ rows) (suc n) h = others_fail f rows n (λ k d a b. h (suc k) d (omega (arith, a)) (omega (arith, b)))

-- ---- the live rows that a range has

no_and : (a b : Bool) → b ≡ false → (a && b) ≡ false
no_and true b e = e
no_and false b e = refl

none_live : (p : List ℕ → Bool) (rows : List LeafRow) → list_all (λ row. not (p row.key)) rows ≡ true → live_entries p rows ≡ []
none_live p [] h = refl
none_live p (row ∷ rows) h =
    let parts = and_parts _ _ h in
    ap (λ (b : Bool). cond b ((row.key, row.value) ∷ live_entries p rows) (live_entries p rows)) (no_and (not row.tombstone) (p row.key) (not_true (p row.key) parts.0)) ∙ none_live p rows parts.1

all_live : (p : List ℕ → Bool) (rows : List LeafRow) → list_all (λ row. p row.key) rows ≡ true → live_entries p rows ≡ live_entries (λ key. true) rows
all_live p [] h = refl
all_live p (row ∷ rows) h =
    let parts = and_parts _ _ h in
    let here : p row.key ≡ true = parts.0 in
    let rest = all_live p rows parts.1 in
    λ i. cond (not row.tombstone && here i) ((row.key, row.value) ∷ rest i) (rest i)

module _ (low high : Option (List ℕ)) where
  abbrev inside : List ℕ → Bool
  inside = has_key (record { low = low; high = high })

  none_before : (rows : List LeafRow) → list_all (under low) rows ≡ true → list_all (λ row. not (inside row.key)) rows ≡ true
  none_before [] h = refl
  none_before (row ∷ rows) h =
      let parts = and_parts _ _ h in
      let here : is_below (Some row.key) low ≡ true = parts.0 in
      and_from _ _ (ap (λ (b : Bool). not (not b && is_below (Some row.key) high)) here) (none_before rows parts.1)

  none_behind : (rows : List LeafRow) → list_all (over high) rows ≡ true → list_all (λ row. not (inside row.key)) rows ≡ true
  none_behind [] h = refl
  none_behind (row ∷ rows) h =
      let parts = and_parts _ _ h in
      and_from _ _ (ap not (no_and (not (is_below (Some row.key) low)) (is_below (Some row.key) high) (not_true (is_below (Some row.key) high) parts.0))) (none_behind rows parts.1)

  all_inside : (rows : List LeafRow) → list_all (over low) rows ≡ true → list_all (under high) rows ≡ true → list_all (λ row. inside row.key) rows ≡ true
  all_inside [] h g = refl
  all_inside (row ∷ rows) h g = let a = and_parts _ _ h in let b = and_parts _ _ g in and_from _ _ (and_from _ _ a.0 b.0) (all_inside rows a.1 b.1)

  -- of the rows that begin below the high bound those behind the ones below the low bound
  pub between : (rows first middle : List LeafRow) (end start : ℕ) → first ≡ take end rows → middle ≡ drop start first → list_all (under high) (take end rows) ≡ true → list_all (over high) (drop end rows) ≡ true
      → list_all (under low) (take start first) ≡ true → list_all (over low) (drop start first) ≡ true → live_entries (λ key. true) middle ≡ live_entries inside rows
  between rows first middle end start first_is middle_is below behind before rest =
      let cut_there : take start first ++ middle ≡ first = ap (λ l. take start first ++ l) middle_is ∙ take-append-drop start first in
      let whole : first ++ drop end rows ≡ rows = ap (λ l. l ++ drop end rows) first_is ∙ take-append-drop end rows in
      let low_passed : list_all (over low) middle ≡ true = ap (list_all (over low)) middle_is ∙ rest in
      let high_kept : list_all (under high) middle ≡ true = ap (list_all (under high)) middle_is ∙ (parts_pass (under high) first start (ap (list_all (under high)) first_is ∙ below)).1 in
      let front : live_entries inside first ≡ live_entries inside middle =
      ap (live_entries inside) (sym cut_there) ∙ entries_append inside (take start first) middle ∙ ap (λ es. es ++ live_entries inside middle) (none_live inside (take start first) (none_before (take start first) before)) in
      let all : live_entries inside rows ≡ live_entries inside first =
      ap (live_entries inside) (sym whole) ∙ entries_append inside first (drop end rows) ∙ ap (λ es. live_entries inside first ++ es) (none_live inside (drop end rows) (none_behind (drop end rows) behind))
      ∙ append-nil (live_entries inside first) in
      sym (all ∙ front ∙ all_live inside middle (all_inside middle low_passed high_kept))
