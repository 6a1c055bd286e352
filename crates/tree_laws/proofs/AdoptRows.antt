-- A separator put among the rows of a branch.
use Rattle.std.proofs.Common.{◌≡◌, ℕ, Bool, true, false, cond, List, [], ◌∷◌, ◌++◌, Option, Some, None, refl, sym, ap, ◌∙◌}
use Rattle.std.specs.Prelude.{◌||◌}
use Rattle.std.specs.List.{list_all, list_any}
use Rattle.std.proofs.lemmas.Bool.{and_parts, and_from, not-false, or_parts}
use Rattle.store_model.specs.Range.{is_below}
use Rattle.wal_record.specs.declared.page.BranchRow.{BranchRow}
use Rattle.wal_record.specs.Tree.{Pointer, first_low, row_pointers}
use Rattle.wal_record.specs.State.{IsFirst, rises, branch_below, put_branch_row, child_at, or_child, separates}
use Rattle.store_model.proofs.Bools.{not_both}
use Rattle.log_laws.proofs.Locked.{below_trans}
use Rattle.tree_laws.proofs.Counts.{inside_some}
use Rattle.tree_laws.proofs.RowLaws.{all_more}
use Rattle.tree_laws.proofs.Start.{missing}

abbrev pub to_page : ℕ → ℕ → Option (List ℕ) → Option (List ℕ) → Pointer
to_page c level low high = record { child = c; fence = record { level = level; low = low; high = high } }

abbrev pub row_to : List ℕ → ℕ → BranchRow
row_to key f = record { low = Some key; child = f }

pub all_put_branch : (f : BranchRow → Bool) (r : BranchRow) (rows : List BranchRow) → f r ≡ true → list_all f rows ≡ true → list_all f (put_branch_row r rows) ≡ true
all_put_branch f r [] h a = and_from _ _ h refl
all_put_branch f r (row ∷ rows) h a = by (is_below r.low row.low) (and_parts _ _ a).0 (all_put_branch f r rows h (and_parts _ _ a).1)
  where
    by : (b : Bool) → f row ≡ true → list_all f (put_branch_row r rows) ≡ true → list_all f (cond b (r ∷ row ∷ rows) (row ∷ put_branch_row r rows)) ≡ true
    by true p rest = and_from _ _ h a
    by false p rest = and_from _ _ p rest

-- a row that the key doesn't separate is on one side of it
beside : (key : List ℕ) (row : BranchRow) → separates key row ≡ false → is_below (Some key) row.low ≡ false → is_below row.low (Some key) ≡ true
beside key row s n = by (is_below row.low (Some key)) refl (not-false _ s)
  where
    by : (b : Bool) → is_below row.low (Some key) ≡ b → (b || is_below (Some key) row.low) ≡ true → b ≡ true
    by true e h = refl
    by false e h = absurd (not_both _ h n)

pub rises_put_branch : (key : List ℕ) (f : ℕ) (rows : List BranchRow) → list_any (separates key) rows ≡ false → rises branch_below rows ≡ true → rises branch_below (put_branch_row (row_to key f) rows) ≡ true
rises_put_branch key f [] s a = refl
rises_put_branch key f (row ∷ rows) s a = by (is_below (Some key) row.low) refl (or_parts _ _ s).0 (and_parts _ _ a).0 (rises_put_branch key f rows (or_parts _ _ s).1 (and_parts _ _ a).1)
  where
    by : (b : Bool) → is_below (Some key) row.low ≡ b → separates key row ≡ false → list_all (branch_below row) rows ≡ true → rises branch_below (put_branch_row (row_to key f) rows) ≡ true → rises branch_below (cond b (row_to key f ∷ row ∷ rows) (row ∷ put_branch_row (row_to key f) rows)) ≡ true
    by true e n h rest = and_from _ _ (and_from _ _ e (all_more (branch_below row) (branch_below (row_to key f)) (λ x g. below_trans (Some key) row.low x.low e g) rows h)) a
    by false e n h rest = and_from _ _ (all_put_branch (branch_below row) (row_to key f) rows (beside key row n e) h) rest

-- where a row covers the key, the first row stays the first
first_put : (key : List ℕ) (f r : ℕ) (end : Option (List ℕ)) (rows : List BranchRow) → child_at key rows ≡ Some r → first_low end (put_branch_row (row_to key f) rows) ≡ first_low end rows
first_put key f r end [] h = absurd (missing r h)
first_put key f r end (row ∷ rows) h = by (is_below (Some key) row.low) h
  where
    by : (b : Bool) → cond b None (or_child (child_at key rows) row.child) ≡ Some r → first_low end (cond b (row_to key f ∷ row ∷ rows) (row ∷ put_branch_row (row_to key f) rows)) ≡ row.low
    by true g = absurd (missing r g)
    by false g = refl

pub is_first_put : (key : List ℕ) (f r : ℕ) (low : Option (List ℕ)) (rows : List BranchRow) → child_at key rows ≡ Some r → IsFirst low rows → IsFirst low (put_branch_row (row_to key f) rows)
is_first_put key f r low [] h i = absurd i
is_first_put key f r low (row ∷ rows) h i = by (is_below (Some key) row.low) h
  where
    by : (b : Bool) → cond b None (or_child (child_at key rows) row.child) ≡ Some r → IsFirst low (cond b (row_to key f ∷ row ∷ rows) (row ∷ put_branch_row (row_to key f) rows))
    by true g = absurd (missing r g)
    by false g = i

-- where no row covers the key, it comes before them all
put_first : (key : List ℕ) (f : ℕ) (rows : List BranchRow) → child_at key rows ≡ None → put_branch_row (row_to key f) rows ≡ row_to key f ∷ rows
put_first key f [] h = refl
put_first key f (row ∷ rows) h = by (is_below (Some key) row.low) h
  where
    some : (o : Option ℕ) → or_child o row.child ≡ None → ⊥
    some None g = missing row.child (sym g)
    some (Some d) g = missing d (sym g)

    by : (b : Bool) → cond b None (or_child (child_at key rows) row.child) ≡ None → cond b (row_to key f ∷ row ∷ rows) (row ∷ put_branch_row (row_to key f) rows) ≡ row_to key f ∷ row ∷ rows
    by true g = refl
    by false g = absurd (some (child_at key rows) g)

-- the pointers of the rows, before and with the new row
pub record Adopted (l : ℕ) (end : Option (List ℕ)) (key : List ℕ) (f r : ℕ) (rows : List BranchRow) : Type 0 where
  pub front : List Pointer
  pub back : List Pointer
  pub low : Option (List ℕ)
  pub high : Option (List ℕ)
  pub was : row_pointers l end rows ≡ front ++ to_page r l low high ∷ back
  pub current : row_pointers l end (put_branch_row (row_to key f) rows) ≡ front ++ to_page r l low (Some key) ∷ to_page f l (Some key) high ∷ back

pub adopted : (l : ℕ) (end : Option (List ℕ)) (key : List ℕ) (f r : ℕ) (rows : List BranchRow) → child_at key rows ≡ Some r → Adopted l end key f r rows
adopted l end key f r [] h = absurd (missing r h)
adopted l end key f r (row ∷ rows) h = by (is_below (Some key) row.low) refl h (adopted l end key f r rows)
  where
    put : is_below (Some key) row.low ≡ false → put_branch_row (row_to key f) (row ∷ rows) ≡ row ∷ put_branch_row (row_to key f) rows
    put e = ap (λ (b : Bool). cond b (row_to key f ∷ row ∷ rows) (row ∷ put_branch_row (row_to key f) rows)) e

    inner : is_below (Some key) row.low ≡ false → (o : Option ℕ) → child_at key rows ≡ o → or_child o row.child ≡ Some r → (child_at key rows ≡ Some r → Adopted l end key f r rows) → Adopted l end key f r (row ∷ rows)
    inner e None g h rest =
        let mine : row.child ≡ r = inside_some row.child r h in
        record {
          front = [];
          back = row_pointers l end rows;
          low = row.low;
          high = first_low end rows;
          was = ap (λ (c : ℕ). to_page c l row.low (first_low end rows) ∷ row_pointers l end rows) mine;
          current = ap (row_pointers l end) (put e ∙ ap (λ (x : List BranchRow). row ∷ x) (put_first key f rows g)) ∙ ap (λ (c : ℕ). to_page c l row.low (Some key) ∷ to_page f l (Some key) (first_low end rows) ∷ row_pointers l end rows) mine;
        }
    inner e (Some d) g h rest =
        let a = rest (g ∙ h) in
        record {
          front = to_page row.child l row.low (first_low end rows) ∷ a.front;
          back = a.back;
          low = a.low;
          high = a.high;
          was = ap (λ (x : List Pointer). to_page row.child l row.low (first_low end rows) ∷ x) a.was;
          current = ap (row_pointers l end) (put e)
              ∙ ap (λ (b : Option (List ℕ)). to_page row.child l row.low b ∷ row_pointers l end (put_branch_row (row_to key f) rows)) (first_put key f d end rows g)
              ∙ ap (λ (x : List Pointer). to_page row.child l row.low (first_low end rows) ∷ x) a.current;
        }

    by : (b : Bool) → is_below (Some key) row.low ≡ b → cond b None (or_child (child_at key rows) row.child) ≡ Some r → (child_at key rows ≡ Some r → Adopted l end key f r rows) → Adopted l end key f r (row ∷ rows)
    by true e g rest = absurd (missing r g)
    by false e g rest = inner e (child_at key rows) refl g rest
