-- The search law.
use Rattle.std.proofs.Common.{◌≡◌, ℕ, zero, suc, ◌+◌, ◌-◌, ◌<◌, ◌≤◌, Bool, true, false, cond, leb, List, [], ◌∷◌, length, drop, Option, Some, None, refl, sym, ap, subst, ◌∙◌, arith}
use Rattle.std.specs.Prelude.{slice_get}
use Rattle.std.specs.List.{HoldsAt}
use Rattle.std.specs.List.Sorted.{IsPartitionPoint}
use Rattle.std.proofs.lemmas.Bool.{and_parts}
use Rattle.std.proofs.lemmas.Option.{get_or_from_slice_get}
use Rattle.store_model.specs.Range.{is_below, IsBelow}
use Rattle.store_model.proofs.Bools.{false_unless, not_both}
use Rattle.wal_record.specs.State.{KeepsState, KeepsRows, IsFirst, rises, branch_below, has_own, own_end, own_part, branch_rows, child_at, or_child}
use Rattle.wal_record.specs.Tree.{first_low, row_pointers}
use Rattle.wal_record.specs.declared.page.PageState.{PageState}
use Rattle.wal_record.specs.declared.page.BranchRow.{BranchRow}
use Rattle.wal_record.specs.declared.page.Rows.TheVariants.{Branch}
use Rattle.log_laws.proofs.Locked.{below_trans}
use Rattle.tree_laws.proofs.Keys.{in_parts, in_from, below_itself}
use Rattle.tree_laws.proofs.AdoptRows.{to_page}
use Rattle.foster_laws.specs.Descents.{CoversAt, SearchLaw}
use Rattle.foster_laws.proofs.Adopting.{none_covers}
use Rattle.foster_laws.proofs.CutRows.{one_way, at_place, all_at_place}
use Rattle.foster_laws.proofs.HalfSizes.{le_true, lt_false}

-- ---- the row at a place

slot_of : (l : ℕ) (end : Option (List ℕ)) (rows : List BranchRow) (i : ℕ) (r : BranchRow) → slice_get rows i ≡ Some r → slice_get (row_pointers l end rows) i ≡ Some (to_page r.child l r.low (first_low end (drop (suc i) rows)))
slot_of l end [] i r e = absurd cc
slot_of l end (row ∷ rows) zero r e = let same : row ≡ r = cc in ap (λ (x : BranchRow). Some (to_page x.child l x.low (first_low end rows))) same
slot_of l end (row ∷ rows) (suc i) r e = slot_of l end rows i r e

-- the key is at this row or behind it, and before the next one
covers : (key : List ℕ) (end : Option (List ℕ)) (rows : List BranchRow) (i : ℕ) (r : BranchRow) → rises branch_below rows ≡ true → slice_get rows i ≡ Some r → is_below (Some key) r.low ≡ false → is_below (Some key) (first_low end (drop (suc i) rows)) ≡ true → child_at key rows ≡ Some r.child
covers key end [] i r a e n h = absurd cc
covers key end (row ∷ rows) zero r a e n h =
    let same : row ≡ r = cc in
    ap (λ (b : Bool). cond b None (or_child (child_at key rows) row.child)) (ap (λ (x : BranchRow). is_below (Some key) x.low) same ∙ n) ∙ ap (λ (o : Option ℕ). or_child o row.child) (none_covers key end rows h) ∙ ap (λ (x : BranchRow). Some x.child) same
covers key end (row ∷ rows) (suc i) r a e n h =
    let p = and_parts _ _ a in
    let first : is_below row.low r.low ≡ true = all_at_place (branch_below row) rows i r p.0 e in
    let behind : is_below (Some key) row.low ≡ false = false_unless (is_below (Some key) row.low) (λ g. not_both (is_below (Some key) r.low) (below_trans (Some key) row.low r.low g first) n) in
    ap (λ (b : Bool). cond b None (or_child (child_at key rows) row.child)) behind ∙ ap (λ (o : Option ℕ). or_child o row.child) (covers key end rows i r p.1 e n h)

-- a row is below the next one
next_above : (end : Option (List ℕ)) (rows : List BranchRow) (i : ℕ) (r : BranchRow) → rises branch_below rows ≡ true → slice_get rows i ≡ Some r → is_below r.low end ≡ true → is_below r.low (first_low end (drop (suc i) rows)) ≡ true
next_above end [] i r a e h = absurd cc
next_above end (row ∷ []) zero r a e h = h
next_above end (row ∷ next ∷ rows) zero r a e h = let same : row ≡ r = cc in ap (λ (x : BranchRow). is_below x.low next.low) (sym same) ∙ (and_parts _ _ (and_parts _ _ a).0).0
next_above end (row ∷ rows) (suc i) r a e h = next_above end rows i r (and_parts _ _ a).1 e h

first_drop : (end : Option (List ℕ)) (rows : List BranchRow) (m : ℕ) (r : BranchRow) → slice_get rows m ≡ Some r → first_low end (drop m rows) ≡ r.low
first_drop end [] m r e = absurd cc
first_drop end (row ∷ rows) zero r e = let same : row ≡ r = cc in ap (λ (x : BranchRow). x.low) same
first_drop end (row ∷ rows) (suc m) r e = first_drop end rows m r e

none_drop : (end : Option (List ℕ)) (rows : List BranchRow) (m : ℕ) → length rows ≤ m → first_low end (drop m rows) ≡ end
none_drop end [] zero h = refl
none_drop end [] (suc m) h = refl
none_drop end (row ∷ rows) zero h = absurd (omega (arith, h))
none_drop end (row ∷ rows) (suc m) h = none_drop end rows m (omega (arith, h))

-- ---- the law

module _ (s : PageState) (key : List ℕ) (keeps : KeepsState s) (branch : s.rows ≡ Branch (branch_rows s.rows)) (own : has_own s key ≡ true) where
  rules : KeepsRows s.level (own_part s) (Branch (branch_rows s.rows))
  rules = subst (KeepsRows s.level (own_part s)) branch keeps.rows

  inside : (is_below (Some key) s.low ≡ false) × (is_below (Some key) (own_end s) ≡ true)
  inside = in_parts (own_part s) key own

  level_is : s.level - 1 + 1 ≡ s.level
  level_is = let l = rules.0 in omega (arith, l)

  at_row : (i : ℕ) (r : BranchRow) → slice_get (branch_rows s.rows) i ≡ Some r → is_below (Some key) r.low ≡ false → is_below (Some key) (first_low (own_end s) (drop (suc i) (branch_rows s.rows))) ≡ true → CoversAt s key i
  at_row i r e n h = record {
    pointer = to_page r.child (s.level - 1) r.low (first_low (own_end s) (drop (suc i) (branch_rows s.rows)));
    slot = slot_of (s.level - 1) (own_end s) (branch_rows s.rows) i r e;
    child = covers key (own_end s) (branch_rows s.rows) i r rules.2 e n h;
    level = level_is;
    within = in_from (record { low = r.low; high = first_low (own_end s) (drop (suc i) (branch_rows s.rows)) }) key n h;
  }

  here : (i : ℕ) → i < length (branch_rows s.rows) → HoldsAt (λ (row : BranchRow). row.low ≡ Some key) (branch_rows s.rows) i → CoversAt s key i
  here i lt holds =
      let x = at_place (branch_rows s.rows) i lt in
      let is : x.0.low ≡ Some key = subst (λ (row : BranchRow). row.low ≡ Some key) (get_or_from_slice_get (branch_rows s.rows) i x.0 x.0 x.1) (holds x.0) in
      at_row i x.0 x.1 (ap (is_below (Some key)) is ∙ below_itself key)
      (ap (λ (b : Option (List ℕ)). is_below b (first_low (own_end s) (drop (suc i) (branch_rows s.rows)))) (sym is) ∙ next_above (own_end s) (branch_rows s.rows) i x.0 rules.2 x.1 (ap (λ (b : Option (List ℕ)). is_below b (own_end s)) is ∙ inside.1))

  abbrev Gap : ℕ → Type 0
  Gap i = IsPartitionPoint (λ (row : BranchRow). IsBelow row.low (Some key)) (λ (row : BranchRow). IsBelow (Some key) row.low) (branch_rows s.rows) i

  first_there : (rows : List BranchRow) → IsFirst s.low rows → (r : BranchRow) × (slice_get rows 0 ≡ Some r) × (r.low ≡ s.low) × (0 < length rows)
  first_there [] h = absurd h
  first_there (row ∷ rows) h = (row, refl, h, omega arith)

  not_before : Gap 0 → ⊥
  not_before parts =
      let x = first_there (branch_rows s.rows) rules.1 in
      let above : is_below (Some key) x.0.low ≡ true = subst (λ (row : BranchRow). is_below (Some key) row.low ≡ true) (get_or_from_slice_get (branch_rows s.rows) 0 x.0 x.0 x.1) (parts.1 0 x.0 (omega arith) x.3) in
      not_both (is_below (Some key) s.low) (ap (is_below (Some key)) (sym x.2) ∙ above) inside.0

  gap : (i : ℕ) → i ≤ length (branch_rows s.rows) → Gap i → (1 ≤ i) × CoversAt s key (i - 1)
  gap zero le parts = absurd (not_before parts)
  gap (suc i) le parts =
      let x = at_place (branch_rows s.rows) i (omega (arith, le)) in
      let below : is_below x.0.low (Some key) ≡ true = subst (λ (row : BranchRow). is_below row.low (Some key) ≡ true) (get_or_from_slice_get (branch_rows s.rows) i x.0 x.0 x.1) (parts.0 i x.0 (omega arith) (omega (arith, le))) in
      let same : i ≡ suc i - 1 = omega arith in
      (omega arith, subst (CoversAt s key) same (at_row i x.0 x.1 (one_way x.0.low (Some key) below) (next (leb (length (branch_rows s.rows)) (suc i)) refl)))
    where
      next : (b : Bool) → leb (length (branch_rows s.rows)) (suc i) ≡ b → is_below (Some key) (first_low (own_end s) (drop (suc i) (branch_rows s.rows))) ≡ true
      next true e = ap (is_below (Some key)) (none_drop (own_end s) (branch_rows s.rows) (suc i) (le_true (length (branch_rows s.rows)) (suc i) e)) ∙ inside.1
      next false e =
          let lt = lt_false (length (branch_rows s.rows)) (suc i) e in
          let y = at_place (branch_rows s.rows) (suc i) lt in
          ap (is_below (Some key)) (first_drop (own_end s) (branch_rows s.rows) (suc i) y.0 y.1)
          ∙ subst (λ (row : BranchRow). is_below (Some key) row.low ≡ true) (get_or_from_slice_get (branch_rows s.rows) (suc i) y.0 y.0 y.1) (parts.1 (suc i) y.0 (omega arith) lt)

pub search_law : (s : PageState) (key : List ℕ) → SearchLaw s key
search_law s key = record {
  here = λ keeps branch own i lt holds. here s key keeps branch own i lt holds;
  gap = λ keeps branch own i le parts. gap s key keeps branch own i le parts;
}
