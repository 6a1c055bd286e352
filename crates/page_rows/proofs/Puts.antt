-- A row put at the spot of its key, and what the rows say of the key there.
use Rattle.std.proofs.Common.{◌≡◌, ℕ, zero, suc, ◌<◌, ◌≤◌, Bool, true, false, cond, List, [], ◌∷◌, length, get_or, set, Option, Some, None, refl, ap, subst, ◌∙◌, arith, Ordering, Less, Equal, Greater}
use Rattle.std.specs.Prelude.{insert, is_some, not, ◌||◌}
use Rattle.std.specs.List.{HoldsAt, list_any}
use Rattle.std.specs.List.Sorted.{IsPartitionPoint}
use Rattle.std.specs.Ordering.{nat_cmp, is_lt, is_eq, match_ordering}
use Rattle.std.specs.Cmp.Lexicographic.{slice_cmp, nat_list_cmp_total}
use Rattle.std.proofs.lemmas.Bool.{and_parts}
use Rattle.std.proofs.lemmas.Cmp.{tied_itself}
use Rattle.store_model.specs.Range.{is_below, IsBelow}
use Rattle.wal_record.specs.State.{same_key, live, live_value, put_row, put_branch_row, child_at, or_child, separates, rises, leaf_below}
use Rattle.wal_record.specs.declared.page.LeafRow.{LeafRow}
use Rattle.wal_record.specs.declared.page.BranchRow.{BranchRow}
use Rattle.page_rows.specs.Rows.{leaf_at, branch_at, BranchGap}
use Rattle.page_rows.proofs.Spots.{below_itself, above_is, below_is, all_at}

-- ---- a partition without its first row

module _ {A : Type 0} (P Q : A → Type 0) where
  pub parts_shorter : (x : A) (xs : List A) (i : ℕ) → IsPartitionPoint P Q (x ∷ xs) (suc i) → IsPartitionPoint P Q xs i
  parts_shorter x xs i h = (λ k d low lt. h.0 (suc k) d (omega arith) (omega (arith, lt)), λ k d low lt. h.1 (suc k) d (omega (arith, low)) (omega (arith, lt)))

abbrev pub not_zero : ℕ → Bool
not_zero zero = false
not_zero (suc i) = true

-- ---- leaves

module _ (key : List ℕ) where
  -- the first i rows are below the key, the others above it
  abbrev pub LeafGap : List LeafRow → ℕ → Type 0
  LeafGap rows i = IsPartitionPoint (λ row. IsBelow (leaf_at row) (Some key)) (λ row. IsBelow (Some key) (leaf_at row)) rows i

  leaf_shorter : (row : LeafRow) (rows : List LeafRow) (i : ℕ) → LeafGap (row ∷ rows) (suc i) → LeafGap rows i
  leaf_shorter row rows i h = parts_shorter (λ x. IsBelow (leaf_at x) (Some key)) (λ x. IsBelow (Some key) (leaf_at x)) row rows i h

  other_key : (row : LeafRow) (o : Ordering) → slice_cmp nat_cmp key row.key ≡ o → is_eq o ≡ false → same_key key row.key ≡ false
  other_key row o e h = ap is_eq e ∙ h

  -- no row has the key
  pub live_in_gap : (rows : List LeafRow) (i : ℕ) → LeafGap rows i → i ≤ length rows → live rows key ≡ None
  live_in_gap [] i h le = refl
  live_in_gap (row ∷ rows) zero h le =
      let first = below_is key row.key (h.1 0 row (omega arith) (omega arith)) in
      ap (λ (b : Bool). cond b (live_value row) (live rows key)) (other_key row Less first refl) ∙ live_in_gap rows zero (λ k d low lt. absurd (omega arith), λ k d low lt. h.1 (suc k) d (omega arith) (omega (arith, lt))) (omega arith)
  live_in_gap (row ∷ rows) (suc i) h le =
      let first = above_is row.key key (h.0 0 row (omega arith) (omega arith)) in
      ap (λ (b : Bool). cond b (live_value row) (live rows key)) (other_key row Greater first refl) ∙ live_in_gap rows i (leaf_shorter row rows i h) (omega (arith, le))

  -- a row of the key goes into the gap
  pub put_in_gap : (r : LeafRow) (rows : List LeafRow) (i : ℕ) → r.key ≡ key → LeafGap rows i → i ≤ length rows → put_row r rows ≡ insert rows i r
  put_in_gap r [] zero same h le = refl
  put_in_gap r [] (suc i) same h le = absurd (omega (arith, le))
  put_in_gap r (row ∷ rows) zero same h le =
      let first = ap (λ (k : List ℕ). slice_cmp nat_cmp k row.key) same ∙ below_is key row.key (h.1 0 row (omega arith) (omega arith)) in
      ap (λ (o : Ordering). match_ordering o (r ∷ row ∷ rows) (r ∷ rows) (row ∷ put_row r rows)) first
  put_in_gap r (row ∷ rows) (suc i) same h le =
      let first = ap (λ (k : List ℕ). slice_cmp nat_cmp k row.key) same ∙ above_is row.key key (h.0 0 row (omega arith) (omega arith)) in
      ap (λ (o : Ordering). match_ordering o (r ∷ row ∷ rows) (r ∷ rows) (row ∷ put_row r rows)) first ∙ ap (λ (rs : List LeafRow). row ∷ rs) (put_in_gap r rows i same (leaf_shorter row rows i h) (omega (arith, le)))

  abbrev pub AtKey : List LeafRow → ℕ → Type 0
  AtKey rows i = HoldsAt (λ row. leaf_at row ≡ Some key) rows i

  some_is : (a b : List ℕ) → ◌≡◌ {A = Option (List ℕ)} (Some a) (Some b) → a ≡ b
  some_is a b e = cc

  at_first : (row : LeafRow) → leaf_at row ≡ Some key → slice_cmp nat_cmp key row.key ≡ Equal
  at_first row e = ap (λ (k : List ℕ). slice_cmp nat_cmp key k) (some_is row.key key e) ∙ tied_itself nat_list_cmp_total key

  -- a row before the key's row is below the key
  before_it : (row : LeafRow) (rows : List LeafRow) (i : ℕ) → rises leaf_below (row ∷ rows) ≡ true → AtKey rows i → i < length rows → slice_cmp nat_cmp key row.key ≡ Greater
  before_it row rows i rise h lt =
      let low : is_below (Some row.key) (Some (get_or rows i row).key) ≡ true = all_at (leaf_below row) rows i row (and_parts _ _ rise).0 lt in
      above_is row.key key (subst (λ (k : List ℕ). is_below (Some row.key) (Some k) ≡ true) (some_is (get_or rows i row).key key (h row)) low)

  -- the live value of the key is that of its row
  pub live_at_row : (rows : List LeafRow) (i : ℕ) (d : LeafRow) → rises leaf_below rows ≡ true → AtKey rows i → i < length rows → live rows key ≡ live_value (get_or rows i d)
  live_at_row [] i d rise h lt = absurd (omega arith)
  live_at_row (row ∷ rows) zero d rise h lt = ap (λ (o : Ordering). cond (is_eq o) (live_value row) (live rows key)) (at_first row (h row))
  live_at_row (row ∷ rows) (suc i) d rise h lt =
      ap (λ (o : Ordering). cond (is_eq o) (live_value row) (live rows key)) (before_it row rows i rise (λ e. h e) (omega (arith, lt)))
      ∙ live_at_row rows i d (and_parts _ _ rise).1 (λ e. h e) (omega (arith, lt))

  -- a row of the key takes the place of that row
  pub put_at_row : (r : LeafRow) (rows : List LeafRow) (i : ℕ) → r.key ≡ key → rises leaf_below rows ≡ true → AtKey rows i → i < length rows → put_row r rows ≡ set rows i r
  put_at_row r [] i same rise h lt = absurd (omega arith)
  put_at_row r (row ∷ rows) zero same rise h lt =
      let first = ap (λ (k : List ℕ). slice_cmp nat_cmp k row.key) same ∙ at_first row (h row) in
      ap (λ (o : Ordering). match_ordering o (r ∷ row ∷ rows) (r ∷ rows) (row ∷ put_row r rows)) first
  put_at_row r (row ∷ rows) (suc i) same rise h lt =
      let first = ap (λ (k : List ℕ). slice_cmp nat_cmp k row.key) same ∙ before_it row rows i rise (λ e. h e) (omega (arith, lt)) in
      ap (λ (o : Ordering). match_ordering o (r ∷ row ∷ rows) (r ∷ rows) (row ∷ put_row r rows)) first ∙ ap (λ (rs : List LeafRow). row ∷ rs) (put_at_row r rows i same (and_parts _ _ rise).1 (λ e. h e) (omega (arith, lt)))

  -- ---- branches

  branch_shorter : (row : BranchRow) (rows : List BranchRow) (i : ℕ) → BranchGap key (row ∷ rows) (suc i) → BranchGap key rows i
  branch_shorter row rows i h = parts_shorter (λ x. IsBelow (branch_at x) (Some key)) (λ x. IsBelow (Some key) (branch_at x)) row rows i h

  -- what is below a bound isn't above it
  one_way : (a b : Option (List ℕ)) → is_below a b ≡ true → is_below b a ≡ false
  one_way None b e = absurd cc
  one_way (Some a) None e = refl
  one_way (Some a) (Some b) e = ap is_lt (above_is a b e)

  -- no row has the key as its separator
  pub fresh_in_gap : (rows : List BranchRow) (i : ℕ) → BranchGap key rows i → i ≤ length rows → list_any (separates key) rows ≡ false
  fresh_in_gap [] i h le = refl
  fresh_in_gap (row ∷ rows) zero h le =
      let first = h.1 0 row (omega arith) (omega arith) in
      ap (λ (b : Bool). not (is_below row.low (Some key) || b) || list_any (separates key) rows) first ∙ ap (λ (b : Bool). not (b || true) || list_any (separates key) rows) (one_way (Some key) row.low first)
      ∙ fresh_in_gap rows zero (λ k d low lt. absurd (omega arith), λ k d low lt. h.1 (suc k) d (omega arith) (omega (arith, lt))) (omega arith)
  fresh_in_gap (row ∷ rows) (suc i) h le =
      ap (λ (b : Bool). not (b || is_below (Some key) row.low) || list_any (separates key) rows) (h.0 0 row (omega arith) (omega arith)) ∙ fresh_in_gap rows i (branch_shorter row rows i h) (omega (arith, le))

  -- the key's row is no fresh one
  pub taken_at_row : (rows : List BranchRow) (i : ℕ) → HoldsAt (λ row. branch_at row ≡ Some key) rows i → i < length rows → list_any (separates key) rows ≡ true
  taken_at_row [] i h lt = absurd (omega arith)
  taken_at_row (row ∷ rows) zero h lt = rw (h row, below_itself key) refl
  taken_at_row (row ∷ rows) (suc i) h lt = by (separates key row) (taken_at_row rows i (λ e. h e) (omega (arith, lt)))
    where
      by : (b : Bool) → list_any (separates key) rows ≡ true → (b || list_any (separates key) rows) ≡ true
      by true e = refl
      by false e = e

  -- a row covers the key exactly where one stands before the gap
  pub covered_in_gap : (rows : List BranchRow) (i : ℕ) → BranchGap key rows i → i ≤ length rows → is_some (child_at key rows) ≡ not_zero i
  covered_in_gap [] zero h le = refl
  covered_in_gap [] (suc i) h le = absurd (omega (arith, le))
  covered_in_gap (row ∷ rows) zero h le = ap (λ (b : Bool). is_some (cond b None (or_child (child_at key rows) row.child))) (h.1 0 row (omega arith) (omega arith))
  covered_in_gap (row ∷ rows) (suc i) h le = ap (λ (b : Bool). is_some (cond b None (or_child (child_at key rows) row.child))) (one_way row.low (Some key) (h.0 0 row (omega arith) (omega arith))) ∙ there (child_at key rows) row.child
    where
      there : (o : Option ℕ) (c : ℕ) → is_some (or_child o c) ≡ true
      there None c = refl
      there (Some d) c = refl

  -- a row of the key goes into the gap
  pub put_branch_in_gap : (r : BranchRow) (rows : List BranchRow) (i : ℕ) → r.low ≡ Some key → BranchGap key rows i → i ≤ length rows → put_branch_row r rows ≡ insert rows i r
  put_branch_in_gap r [] zero same h le = refl
  put_branch_in_gap r [] (suc i) same h le = absurd (omega (arith, le))
  put_branch_in_gap r (row ∷ rows) zero same h le =
      let first = ap (λ (b : Option (List ℕ)). is_below b row.low) same ∙ h.1 0 row (omega arith) (omega arith) in
      ap (λ (b : Bool). cond b (r ∷ row ∷ rows) (row ∷ put_branch_row r rows)) first
  put_branch_in_gap r (row ∷ rows) (suc i) same h le =
      let first = ap (λ (b : Option (List ℕ)). is_below b row.low) same ∙ one_way row.low (Some key) (h.0 0 row (omega arith) (omega arith)) in
      ap (λ (b : Bool). cond b (r ∷ row ∷ rows) (row ∷ put_branch_row r rows)) first ∙ ap (λ (rs : List BranchRow). row ∷ rs) (put_branch_in_gap r rows i same (branch_shorter row rows i h) (omega (arith, le)))
