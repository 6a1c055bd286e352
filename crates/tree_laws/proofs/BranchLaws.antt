-- Rows cut in two, and the pointers of the rows.
use Rattle.std.proofs.Common.{◌≡◌, ℕ, Bool, true, false, cond, List, [], ◌∷◌, ◌++◌, Option, Some, None, refl, sym, ap, ◌∙◌}
use Rattle.std.specs.Prelude.{not, filter, unwrap_or}
use Rattle.std.specs.List.{list_all}
use Rattle.std.proofs.lemmas.Bool.{and_parts, and_from}
use Rattle.store_model.specs.Range.{Interval, is_below}
use Rattle.wal_record.specs.declared.page.LeafRow.{LeafRow}
use Rattle.wal_record.specs.declared.page.BranchRow.{BranchRow}
use Rattle.wal_record.specs.declared.page.Foster.{Foster}
use Rattle.wal_record.specs.declared.page.Rows.{Rows}
use Rattle.wal_record.specs.declared.page.Rows.TheVariants.{Leaf, Branch}
use Rattle.wal_record.specs.State.{KeepsRows, IsFirst, rises, branch_below, branch_row_fits, leaf_row_fits, branch_rows, leaf_rows, end_by, foster_fits}
use Rattle.wal_record.specs.Tree.{first_low, row_pointers}
use Rattle.wal_record.specs.Images.{leaf_under, branch_under, lower_rows, upper_rows, has_rows}
use Rattle.store_model.proofs.Bools.{not_both}
use Rattle.log_laws.proofs.Locked.{below_trans}
use Rattle.tree_laws.proofs.Keys.{under, in_parts, in_from}
use Rattle.tree_laws.proofs.RowLaws.{rises_kept}

-- ---- pointers of rows one after the other

first_append : (end : Option (List ℕ)) (xs ys : List BranchRow) → first_low end (xs ++ ys) ≡ first_low (first_low end ys) xs
first_append end [] ys = refl
first_append end (x ∷ xs) ys = refl

pub pointers_append : (l : ℕ) (end : Option (List ℕ)) (xs ys : List BranchRow) → row_pointers l end (xs ++ ys) ≡ row_pointers l (first_low end ys) xs ++ row_pointers l end ys
pointers_append l end [] ys = refl
pointers_append l end (x ∷ xs) ys =
    let rest = pointers_append l end xs ys in
    λ i. record { child = x.child; fence = record { level = l; low = x.low; high = first_append end xs ys i } } ∷ rest i

pub first_is : (low end : Option (List ℕ)) (rows : List BranchRow) → IsFirst low rows → first_low end rows ≡ low
first_is low end [] h = absurd h
first_is low end (row ∷ rows) h = h

-- ---- rows in two parts

-- behind a row that isn't under a bound none is
none_under : (at : Option (List ℕ)) (r : BranchRow) (rows : List BranchRow) → list_all (branch_below r) rows ≡ true → branch_under at r ≡ false → (filter (branch_under at) rows ≡ []) × (filter (λ row. not (branch_under at row)) rows ≡ rows)
none_under at r [] a f = (refl, refl)
none_under at r (row ∷ rows) a f = by (branch_under at row) refl (and_parts _ _ a).0 (none_under at r rows (and_parts _ _ a).1 f)
  where
    by : (b : Bool) → branch_under at row ≡ b → branch_below r row ≡ true → (filter (branch_under at) rows ≡ []) × (filter (λ row. not (branch_under at row)) rows ≡ rows)
        → (cond b (row ∷ filter (branch_under at) rows) (filter (branch_under at) rows) ≡ []) × (cond (not b) (row ∷ filter (λ row. not (branch_under at row)) rows) (filter (λ row. not (branch_under at row)) rows) ≡ row ∷ rows)
    by true e h rest = absurd (not_both _ (below_trans r.low row.low at h e) f)
    by false e h rest = (rest.0, ap (λ (x : List BranchRow). row ∷ x) rest.1)

pub cut : (at : Option (List ℕ)) (rows : List BranchRow) → rises branch_below rows ≡ true → filter (branch_under at) rows ++ filter (λ row. not (branch_under at row)) rows ≡ rows
cut at [] a = refl
cut at (row ∷ rows) a = by (branch_under at row) refl (and_parts _ _ a).0 (cut at rows (and_parts _ _ a).1)
  where
    by : (b : Bool) → branch_under at row ≡ b → list_all (branch_below row) rows ≡ true → filter (branch_under at) rows ++ filter (λ row. not (branch_under at row)) rows ≡ rows
        → cond b (row ∷ filter (branch_under at) rows) (filter (branch_under at) rows) ++ cond (not b) (row ∷ filter (λ row. not (branch_under at row)) rows) (filter (λ row. not (branch_under at row)) rows) ≡ row ∷ rows
    by true e h rest = ap (λ (x : List BranchRow). row ∷ x) rest
    by false e h rest =
        let n = none_under at row rows h e in
        ap (λ (x : List BranchRow). x ++ row ∷ filter (λ row. not (branch_under at row)) rows) n.0 ∙ ap (λ (x : List BranchRow). row ∷ x) n.1

pub rows_cut : (l level level' : ℕ) (end at : Option (List ℕ)) (part part' : Interval) (rows : Rows) → KeepsRows level part rows → KeepsRows level' part' (upper_rows at rows) → part'.low ≡ at
    → row_pointers l end (branch_rows rows) ≡ row_pointers l at (branch_rows (lower_rows at rows)) ++ row_pointers l end (branch_rows (upper_rows at rows))
rows_cut l level level' end at part part' (Leaf rows) h h' e = refl
rows_cut l level level' end at part part' (Branch rows) h h' e =
    ap (row_pointers l end) (sym (cut at rows h.2))
    ∙ pointers_append l end (filter (branch_under at) rows) (filter (λ row. not (branch_under at row)) rows)
    ∙ ap (λ (x : Option (List ℕ)). row_pointers l x (filter (branch_under at) rows) ++ row_pointers l end (filter (λ row. not (branch_under at row)) rows)) (first_is part'.low end (filter (λ row. not (branch_under at row)) rows) h'.1 ∙ e)

-- ---- the lower rows

pub all_filtered : {A : Type 0} → (f g h : A → Bool) → ((x : A) → f x ≡ true → g x ≡ true → h x ≡ true) → (xs : List A) → list_all f xs ≡ true → list_all h (filter g xs) ≡ true
all_filtered f g h k [] a = refl
all_filtered f g h k (x ∷ xs) a = by (g x) refl (and_parts _ _ a).0 (all_filtered f g h k xs (and_parts _ _ a).1)
  where
    by : (b : Bool) → g x ≡ b → f x ≡ true → list_all h (filter g xs) ≡ true → list_all h (cond b (x ∷ filter g xs) (filter g xs)) ≡ true
    by true e p rest = and_from _ _ (k x p e) rest
    by false e p rest = rest

abbrev pub up_to : Interval → Option (List ℕ) → Interval
up_to part at = record { low = part.low; high = at }

first_stays : (low at : Option (List ℕ)) (rows : List BranchRow) → IsFirst low rows → rises branch_below rows ≡ true → has_rows (Branch (filter (branch_under at) rows)) ≡ true → IsFirst low (filter (branch_under at) rows) × (is_below low at ≡ true)
first_stays low at [] f r h = absurd f
first_stays low at (row ∷ rows) f r h = by (branch_under at row) refl h
  where
    by : (b : Bool) → branch_under at row ≡ b → has_rows (Branch (cond b (row ∷ filter (branch_under at) rows) (filter (branch_under at) rows))) ≡ true → IsFirst low (cond b (row ∷ filter (branch_under at) rows) (filter (branch_under at) rows)) × (is_below low at ≡ true)
    by true e g = (f, ap (λ (x : Option (List ℕ)). is_below x at) (sym f) ∙ e)
    by false e g = absurd (not_both _ g (ap (λ (x : List BranchRow). has_rows (Branch x)) (none_under at row rows (and_parts _ _ r).0 e).0))

leaf_low_under : (part : Interval) (at : Option (List ℕ)) (rows : List LeafRow) → list_all (leaf_row_fits part) rows ≡ true → has_rows (Leaf (filter (leaf_under at) rows)) ≡ true → is_below part.low at ≡ true
leaf_low_under part at [] a h = absurd cc
leaf_low_under part at (row ∷ rows) a h = by (leaf_under at row) refl h (leaf_low_under part at rows (and_parts _ _ a).1)
  where
    by : (b : Bool) → leaf_under at row ≡ b → has_rows (Leaf (cond b (row ∷ filter (leaf_under at) rows) (filter (leaf_under at) rows))) ≡ true → (has_rows (Leaf (filter (leaf_under at) rows)) ≡ true → is_below part.low at ≡ true) → is_below part.low at ≡ true
    by true e g rest = under row.key part.low at (in_parts part row.key (and_parts _ _ (and_parts _ _ a).0).0).0 e
    by false e g rest = rest g

pub low_under : (level : ℕ) (part : Interval) (at : Option (List ℕ)) (rows : Rows) → KeepsRows level part rows → has_rows (lower_rows at rows) ≡ true → is_below part.low at ≡ true
low_under level part at (Leaf rows) k h = leaf_low_under part at rows k.2 h
low_under level part at (Branch rows) k h = (first_stays part.low at rows k.1 k.2 h).1

pub lower_keeps : (level : ℕ) (part : Interval) (at : Option (List ℕ)) (rows : Rows) → KeepsRows level part rows → has_rows (lower_rows at rows) ≡ true → KeepsRows level (up_to part at) (lower_rows at rows)
lower_keeps level part at (Leaf rows) k h = (
  k.0,
  rises_kept _ (leaf_under at) rows k.1,
  all_filtered (leaf_row_fits part) (leaf_under at) (leaf_row_fits (up_to part at))
      (λ row f u. let p = and_parts _ _ f in and_from _ _ (in_from (up_to part at) row.key (in_parts part row.key p.0).0 u) p.1) rows k.2,
)
lower_keeps level part at (Branch rows) k h = (
  k.0,
  (first_stays part.low at rows k.1 k.2 h).0,
  rises_kept _ (branch_under at) rows k.2,
  all_filtered (branch_row_fits part.high) (branch_under at) (branch_row_fits at)
      (λ row f u. let p = and_parts _ _ f in and_from _ _ u p.1) rows k.3,
)

-- ---- bounds of a state

pub low_some : (a b : Option (List ℕ)) → is_below a b ≡ true → a ≡ Some (unwrap_or a [])
low_some None b h = absurd cc
low_some (Some x) b h = refl

pub low_below_end : (low high : Option (List ℕ)) (foster : Option Foster) → is_below low high ≡ true → foster_fits low high foster ≡ true → is_below low (end_by foster high) ≡ true
low_below_end low high None f h = f
low_below_end low high (Some x) f h = (and_parts _ _ (and_parts _ _ h).0).0

-- ---- leaves in two parts

pub is_leaf : Rows → Bool
is_leaf (Leaf rows) = true
is_leaf (Branch rows) = false

pub no_leaf : {A : Type 0} → (xs : List BranchRow) (ys : List LeafRow) → Branch xs ≡ Leaf ys → A
unfolding is_leaf
no_leaf xs ys e = let f : false ≡ true = ap is_leaf e in absurd cc

pub leaf_lower : (at : Option (List ℕ)) (rows : Rows) → rows ≡ Leaf (leaf_rows rows) → lower_rows at rows ≡ Leaf (leaf_rows (lower_rows at rows))
leaf_lower at (Leaf rows) e = refl
leaf_lower at (Branch rows) e = no_leaf _ _ e

pub leaf_upper : (at : Option (List ℕ)) (rows : Rows) → rows ≡ Leaf (leaf_rows rows) → upper_rows at rows ≡ Leaf (leaf_rows (upper_rows at rows))
leaf_upper at (Leaf rows) e = refl
leaf_upper at (Branch rows) e = no_leaf _ _ e

pub was_leaf_lower : (at : Option (List ℕ)) (rows : Rows) (ls : List LeafRow) → lower_rows at rows ≡ Leaf ls → rows ≡ Leaf (leaf_rows rows)
was_leaf_lower at (Leaf rows) ls e = refl
was_leaf_lower at (Branch rows) ls e = no_leaf _ _ e

pub was_leaf_upper : (at : Option (List ℕ)) (rows : Rows) (ls : List LeafRow) → upper_rows at rows ≡ Leaf ls → rows ≡ Leaf (leaf_rows rows)
was_leaf_upper at (Leaf rows) ls e = refl
was_leaf_upper at (Branch rows) ls e = no_leaf _ _ e
