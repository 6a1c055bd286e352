-- Rows that rise, cut in two at a bound.
use Rattle.std.proofs.Common.{◌≡◌, ℕ, zero, suc, ◌<◌, ◌≤◌, Bool, true, false, cond, List, [], ◌∷◌, length, get_or, take, drop, Option, Some, None, refl, sym, ap, subst, ◌∙◌, arith, inl, inr}
use Rattle.std.specs.Prelude.{IsTrue, filter, not}
use Rattle.std.specs.List.Sorted.{IsPartitionPoint, IsPartitionedBy}
use Rattle.std.proofs.lemmas.Bool.{cases_lt}
use Rattle.std.proofs.lemmas.List.{length-take, length-drop}
use Rattle.store_model.specs.Range.{is_below}
use Rattle.store_model.proofs.Bools.{not_both}
use Rattle.wal_record.specs.State.{rises}
use Rattle.wal_record.specs.Images.{leaf_under, branch_under, lower_rows, has_rows}
use Rattle.wal_record.specs.declared.page.LeafRow.{LeafRow}
use Rattle.wal_record.specs.declared.page.BranchRow.{BranchRow}
use Rattle.wal_record.specs.declared.page.Rows.{Rows}
use Rattle.wal_record.specs.declared.page.Rows.TheVariants.{Leaf, Branch}
use Rattle.page_rows.specs.Redo.{IsCut, CanCut}
use Rattle.page_rows.proofs.Spots.{below_trans, rises_at}

-- ---- what passes a test stands in front

module _ {A : Type 0} (begin : A → Option (List ℕ)) (at : Option (List ℕ)) where
  -- a row below the bound comes after none that isn't
  pub parted : (rows : List A) → rises (λ a b. is_below (begin a) (begin b)) rows ≡ true → IsPartitionedBy (λ row. is_below (begin row) at) rows
  parted rows rise i j d le lt h = elim (cases_lt i j) [
    | inl before ↦ below_trans (begin (get_or rows i d)) (begin (get_or rows j d)) at (rises_at (λ a b. is_below (begin a) (begin b)) rows i j d rise before lt) h
    | inr after ↦ let same : j ≡ i = omega arith in subst (λ (k : ℕ). is_below (begin (get_or rows k d)) at ≡ true) same h
  ]

module _ {A : Type 0} (p : A → Bool) where
  abbrev pub PartsAt : List A → ℕ → Type 0
  PartsAt xs m = IsPartitionPoint (λ x. p x ≡ true) (λ x. p x ≡ false) xs m

  rest_parts : (x : A) (xs : List A) (m : ℕ) → PartsAt (x ∷ xs) (suc m) → PartsAt xs m
  rest_parts x xs m h = (λ k d low lt. h.0 (suc k) d (omega arith) (omega (arith, lt)), λ k d low lt. h.1 (suc k) d (omega (arith, low)) (omega (arith, lt)))

  none_pass : (x : A) (xs : List A) → PartsAt (x ∷ xs) zero → PartsAt xs zero
  none_pass x xs h = (λ k d low lt. absurd (omega (arith, lt)), λ k d low lt. h.1 (suc k) d (omega arith) (omega (arith, lt)))

  pub front_is : (xs : List A) (m : ℕ) → m ≤ length xs → PartsAt xs m → filter p xs ≡ take m xs
  front_is [] zero le h = refl
  front_is [] (suc m) le h = absurd (omega (arith, le))
  front_is (x ∷ xs) zero le h = ap (λ (b : Bool). cond b (x ∷ filter p xs) (filter p xs)) (h.1 0 x (omega arith) (omega arith)) ∙ front_is xs zero (omega arith) (none_pass x xs h)
  front_is (x ∷ xs) (suc m) le h = ap (λ (b : Bool). cond b (x ∷ filter p xs) (filter p xs)) (h.0 0 x (omega arith) (omega arith)) ∙ ap (λ (ys : List A). x ∷ ys) (front_is xs m (omega (arith, le)) (rest_parts x xs m h))

  abbrev fails : A → Bool
  fails x = not (p x)

  pub back_is : (xs : List A) (m : ℕ) → m ≤ length xs → PartsAt xs m → filter (λ x. not (p x)) xs ≡ drop m xs
  back_is [] zero le h = refl
  back_is [] (suc m) le h = absurd (omega (arith, le))
  back_is (x ∷ xs) zero le h = ap (λ (b : Bool). cond (not b) (x ∷ filter fails xs) (filter fails xs)) (h.1 0 x (omega arith) (omega arith)) ∙ ap (λ (ys : List A). x ∷ ys) (back_is xs zero (omega arith) (none_pass x xs h))
  back_is (x ∷ xs) (suc m) le h = ap (λ (b : Bool). cond (not b) (x ∷ filter fails xs) (filter fails xs)) (h.0 0 x (omega arith) (omega arith)) ∙ back_is xs m (omega (arith, le)) (rest_parts x xs m h)

-- ---- leaves

leaf_some : (rows : List LeafRow) → 1 ≤ length rows → IsTrue (has_rows (Leaf rows))
leaf_some [] le = absurd (omega arith)
leaf_some (row ∷ rows) le = refl

some_leaf : (rows : List LeafRow) → IsTrue (has_rows (Leaf rows)) → 1 ≤ length rows
some_leaf [] h = absurd cc
some_leaf (row ∷ rows) h = omega arith

leaf_is : (a b : List LeafRow) → ◌≡◌ {A = Rows} (Leaf a) (Leaf b) → a ≡ b
leaf_is a b e = cc

module _ (at : Option (List ℕ)) (rows upper : List LeafRow) (m : ℕ) (le : m ≤ length rows) (parts : PartsAt (leaf_under at) rows m) where
  pub leaf_cut : 1 ≤ m → m < length rows → upper ≡ drop m rows → IsCut at (Leaf rows) (Leaf upper) m
  leaf_cut some less e = record {
    keeps = ap (λ (xs : List LeafRow). Leaf xs) (front_is (leaf_under at) rows m le parts);
    others = ap (λ (xs : List LeafRow). Leaf xs) (e ∙ sym (back_is (leaf_under at) rows m le parts));
    goes = leaf_some upper (omega (arith, ap length e, length-drop m rows));
    stays = leaf_some (filter (leaf_under at) rows) (omega (arith, ap length (front_is (leaf_under at) rows m le parts), length-take m rows));
  }

  pub leaf_cut_all : m ≡ 0 → CanCut at (Leaf rows) (Leaf upper) → ⊥
  leaf_cut_all none can = let some = some_leaf (filter (leaf_under at) rows) can.2 in omega (arith, none, some, ap length (front_is (leaf_under at) rows m le parts), length-take m rows)

  pub leaf_cut_none : m ≡ length rows → CanCut at (Leaf rows) (Leaf upper) → ⊥
  leaf_cut_none all can =
      let some = some_leaf upper can.1 in
      let e : upper ≡ drop m rows = leaf_is upper _ can.0 ∙ back_is (leaf_under at) rows m le parts in
      omega (arith, all, some, ap length e, length-drop m rows)

  pub leaf_cut_other : (drop m rows ≡ upper → ⊥) → CanCut at (Leaf rows) (Leaf upper) → ⊥
  leaf_cut_other other can = other (sym (leaf_is upper _ can.0 ∙ back_is (leaf_under at) rows m le parts))

-- ---- branches

branch_some : (rows : List BranchRow) → 1 ≤ length rows → IsTrue (has_rows (Branch rows))
branch_some [] le = absurd (omega arith)
branch_some (row ∷ rows) le = refl

some_branch : (rows : List BranchRow) → IsTrue (has_rows (Branch rows)) → 1 ≤ length rows
some_branch [] h = absurd cc
some_branch (row ∷ rows) h = omega arith

branch_is : (a b : List BranchRow) → ◌≡◌ {A = Rows} (Branch a) (Branch b) → a ≡ b
branch_is a b e = cc

module _ (at : Option (List ℕ)) (rows upper : List BranchRow) (m : ℕ) (le : m ≤ length rows) (parts : PartsAt (branch_under at) rows m) where
  pub branch_cut : 1 ≤ m → m < length rows → upper ≡ drop m rows → IsCut at (Branch rows) (Branch upper) m
  branch_cut some less e = record {
    keeps = ap (λ (xs : List BranchRow). Branch xs) (front_is (branch_under at) rows m le parts);
    others = ap (λ (xs : List BranchRow). Branch xs) (e ∙ sym (back_is (branch_under at) rows m le parts));
    goes = branch_some upper (omega (arith, ap length e, length-drop m rows));
    stays = branch_some (filter (branch_under at) rows) (omega (arith, ap length (front_is (branch_under at) rows m le parts), length-take m rows));
  }

  pub branch_cut_all : m ≡ 0 → CanCut at (Branch rows) (Branch upper) → ⊥
  branch_cut_all none can = let some = some_branch (filter (branch_under at) rows) can.2 in omega (arith, none, some, ap length (front_is (branch_under at) rows m le parts), length-take m rows)

  pub branch_cut_none : m ≡ length rows → CanCut at (Branch rows) (Branch upper) → ⊥
  branch_cut_none all can =
      let some = some_branch upper can.1 in
      let e : upper ≡ drop m rows = branch_is upper _ can.0 ∙ back_is (branch_under at) rows m le parts in
      omega (arith, all, some, ap length e, length-drop m rows)

  pub branch_cut_other : (drop m rows ≡ upper → ⊥) → CanCut at (Branch rows) (Branch upper) → ⊥
  branch_cut_other other can = other (sym (branch_is upper _ can.0 ∙ back_is (branch_under at) rows m le parts))

-- ---- the key of a cut

-- nothing stands below the empty text
none_beneath : (o : Option (List ℕ)) → is_below o (Some []) ≡ false
none_beneath None = refl
none_beneath (Some []) = refl
none_beneath (Some (b ∷ t)) = refl

none_left : {A : Type 0} (begin : A → Option (List ℕ)) (rows : List A) → filter (λ row. is_below (begin row) (Some [])) rows ≡ []
none_left begin [] = refl
none_left begin (row ∷ rows) = ap (λ (b : Bool). cond b (row ∷ filter (λ x. is_below (begin x) (Some [])) rows) (filter (λ x. is_below (begin x) (Some [])) rows)) (none_beneath (begin row)) ∙ none_left begin rows

-- some rows stay, so the key isn't empty
pub not_empty : (text : List ℕ) (rows : Rows) → IsTrue (has_rows (lower_rows (Some text) rows)) → 1 ≤ length text
not_empty [] (Leaf rows) h = absurd (not_both _ h (ap (λ (xs : List LeafRow). has_rows (Leaf xs)) (none_left (λ row. Some row.key) rows)))
not_empty [] (Branch rows) h = absurd (not_both _ h (ap (λ (xs : List BranchRow). has_rows (Branch xs)) (none_left (λ row. row.low) rows)))
not_empty (b ∷ text) rows h = omega arith
