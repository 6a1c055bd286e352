-- The rows of a page are a field: what is read keeps the rules of a state's rows, and rows that keep them are read again.
use Rattle.std.proofs.Common.{◌≡◌, ℕ, ◌+◌, ◌≤◌, ◌<◌, ◌^◌, Bool, true, false, cond, leb, eqb, List, [], ◌∷◌, ◌++◌, length, slice_get, Option, Some, None, Ok, Err, refl, sym, ap, subst, ◌∙◌, arith, Ordering, Less, Equal, Greater}
use Rattle.std.specs.Prelude.{IsTrue, ◌&&◌, ◌||◌, not}
use Rattle.std.specs.List.{list_all, sum_by}
use Rattle.std.specs.Option.{option_map_or}
use Rattle.std.specs.Int.{w16}
use Rattle.std.specs.Ordering.{nat_cmp, is_lt, ordering_reverse}
use Rattle.std.specs.Cmp.Lexicographic.{slice_cmp, nat_list_cmp_total}
use Rattle.std.proofs.lemmas.Bool.Decides.{nat_tests}
use Rattle.std.proofs.lemmas.Map.Lookups.{exact_bytes}
use Rattle.store_model.specs.Along.{AllFrom, AllAlong}
use Rattle.store_model.specs.Lists.{last_of}
use Rattle.store_model.specs.Range.{Interval, has_key, is_below}
use Rattle.store_model.proofs.Bools.{both_true, and_true, or_left, or_right, not_both}
use Rattle.wal_record.specs.State.{is_text, is_key, is_value, is_child, text_of, leaf_row_size, branch_row_size, rows_size, rises, leaf_below, branch_below, leaf_row_fits, branch_row_fits, IsFirst, KeepsRows}
use Rattle.wal_record.specs.Spelling.{rows_bytes}
use Rattle.wal_record.specs.Reading.{Read, ◌>>=◌, value_suits, leaf_row_at, branch_row_at, is_row_count, list_at, rows_at}
use Rattle.wal_record.specs.declared.page.LeafRow.{LeafRow}
use Rattle.wal_record.specs.declared.page.BranchRow.{BranchRow}
use Rattle.wal_record.specs.declared.page.Rows.{Rows}
use Rattle.wal_record.specs.declared.page.Rows.TheVariants.{Leaf, Branch}
use Rattle.state_codec.proofs.Fields.{IsField, Takes, bind_ok, ok_is, within_bind}
use Rattle.state_codec.proofs.LeafField.{LeafFits, leaf_rows_field}
use Rattle.state_codec.proofs.BranchField.{BranchFits, branch_rows_field}
use Rattle.state_codec.proofs.Rising.{below_trans, follows, they_rise, they_follow, they_fit, each_fits, no_longer, each, both, all_from, from_all}

-- ---- bounds that are the same

irreflexive : (a : Option (List ℕ)) → is_below a a ≡ false
irreflexive None = refl
irreflexive (Some a) = by (slice_cmp nat_cmp a a) (nat_list_cmp_total.antisymm a a)
  where
    by : (o : Ordering) → o ≡ ordering_reverse o → is_lt o ≡ false
    by Less e = absurd cc
    by Equal e = refl
    by Greater e = refl

neither : (a b : Bool) → not (a || b) ≡ true → (a ≡ false) × (b ≡ false)
neither true b e = absurd cc
neither false true e = absurd cc
neither false false e = (refl, refl)

same_bound : (a b : Option (List ℕ)) → not (is_below a b || is_below b a) ≡ true → a ≡ b
same_bound None None e = refl
same_bound None (Some b) e = absurd cc
same_bound (Some a) None e = absurd cc
same_bound (Some a) (Some b) e = ap (λ (t : List ℕ). Some t) (by (slice_cmp nat_cmp a b) refl (neither (is_below (Some a) (Some b)) (is_below (Some b) (Some a)) e))
  where
    by : (o : Ordering) → slice_cmp nat_cmp a b ≡ o → (is_lt (slice_cmp nat_cmp a b) ≡ false) × (is_lt (slice_cmp nat_cmp b a) ≡ false) → a ≡ b
    by Less q none = absurd (not_both (is_lt (slice_cmp nat_cmp a b)) (ap is_lt q) none.0)
    by Equal q none = exact_bytes a b q
    by Greater q none = absurd (not_both (is_lt (slice_cmp nat_cmp b a)) (ap is_lt (nat_list_cmp_total.antisymm b a ∙ ap ordering_reverse q)) none.1)

bound_same : (a b : Option (List ℕ)) → a ≡ b → not (is_below a b || is_below b a) ≡ true
bound_same a b e = subst (λ (x : Option (List ℕ)). not (is_below a x || is_below x a) ≡ true) e (by (is_below a a) (irreflexive a))
  where
    by : (b : Bool) → b ≡ false → not (b || b) ≡ true
    by true e = absurd cc
    by false e = refl

pub is_there : (o end : Option (List ℕ)) → is_below o end ≡ true → o ≡ Some (text_of o)
is_there None end h = absurd cc
is_there (Some t) end h = refl

-- ---- how many rows

pub few_leaf : (xs : List LeafRow) → sum_by leaf_row_size xs ≤ 4051 → length xs < 2 ^ 16
few_leaf xs le = omega (arith, no_longer leaf_row_size (λ x. omega arith) xs)

pub few_branch : (xs : List BranchRow) → sum_by branch_row_size xs ≤ 4051 → length xs < 2 ^ 16
few_branch xs le = omega (arith, no_longer branch_row_size (λ x. omega arith) xs)

-- ---- leaves

module _ (part : Interval) (used : ℕ) where
  leaf_trans : (a b c : LeafRow) → leaf_below a b ≡ true → leaf_below b c ≡ true → leaf_below a c ≡ true
  leaf_trans a b c p q = below_trans (Some a.key) (Some b.key) (Some c.key) p q

  abbrev any_leaf : LeafRow → Bool
  any_leaf r = true

  leaf_keeps : (xs : List LeafRow) → used ≤ 4051 → AllFrom (LeafFits part used) [] xs → IsTrue (rises leaf_below xs) × IsTrue (list_all (leaf_row_fits part) xs) × (used + sum_by leaf_row_size xs ≤ 4051)
  leaf_keeps xs le h =
      let room = they_fit leaf_row_size 4051 used [] xs (omega arith) (each (LeafFits part used) (λ b x. IsTrue (leb (used + sum_by leaf_row_size b + leaf_row_size x) 4051)) (λ b x f. f.1.1) [] xs h) in (
        they_rise leaf_below leaf_trans any_leaf xs (each (LeafFits part used) (λ b x. IsTrue (follows leaf_below leaf_trans any_leaf b x)) (λ b x f. (both_true (has_key part x.key) _ f.0.1).1) [] xs h),
        all_from (leaf_row_fits part) [] xs (each (LeafFits part used) (λ b x. IsTrue (leaf_row_fits part x)) (λ b x f. and_true (has_key part x.key) _ (both_true (has_key part x.key) _ f.0.1).0 (and_true _ _ (and_true _ _ f.0.0 f.1.0.0) f.1.0.1)) [] xs h),
        omega arith,
      )

  keeps_leaf : (xs : List LeafRow) → IsTrue (rises leaf_below xs) → IsTrue (list_all (leaf_row_fits part) xs) → used + sum_by leaf_row_size xs ≤ 4051 → AllFrom (LeafFits part used) [] xs
  keeps_leaf xs rise all room =
      let a = they_follow leaf_below leaf_trans any_leaf xs (λ x _. refl) rise in
      let b = from_all (leaf_row_fits part) [] xs all in
      let c = each_fits leaf_row_size 4051 used [] xs (omega arith) in
      each
      (λ b x. (IsTrue (follows leaf_below leaf_trans any_leaf b x) × IsTrue (leaf_row_fits part x)) × IsTrue (leb (used + sum_by leaf_row_size b + leaf_row_size x) 4051)) (LeafFits part used)
      (λ b x f.
      let g = both_true (has_key part x.key) _ f.0.1 in
      let k = both_true _ (value_suits x.tombstone x.value) g.1 in
      let v = both_true (is_key x.key) (is_value x.value) k.0 in
      ((v.0, and_true (has_key part x.key) _ g.0 f.0.0), ((v.1, k.1), f.1)))
      [] xs
      (both (λ b x. IsTrue (follows leaf_below leaf_trans any_leaf b x) × IsTrue (leaf_row_fits part x)) (λ b x. IsTrue (leb (used + sum_by leaf_row_size b + leaf_row_size x) 4051)) [] xs
      (both (λ b x. IsTrue (follows leaf_below leaf_trans any_leaf b x)) (λ b x. IsTrue (leaf_row_fits part x)) [] xs a b) c)

  -- ---- branches

  branch_trans : (a b c : BranchRow) → branch_below a b ≡ true → branch_below b c ≡ true → branch_below a c ≡ true
  branch_trans a b c p q = below_trans a.low b.low c.low p q

  abbrev is_first : BranchRow → Bool
  is_first r = not (is_below r.low part.low || is_below part.low r.low)

  abbrev stands : List BranchRow → Option (List ℕ) → Bool
  stands before at = option_map_or (λ (p : BranchRow). is_below p.low at) (last_of before) (not (is_below at part.low || is_below part.low at))

  its_place : (b : List BranchRow) (x : BranchRow) → BranchFits part used b x → (IsTrue (follows branch_below branch_trans is_first b x) × IsTrue (branch_row_fits part.high x))
  its_place b x f =
      let s = subst (λ (at : Option (List ℕ)). IsTrue (stands b at && is_below at part.high)) (sym f.0.0) f.0.1.0.1 in
      let two = both_true (stands b x.low) (is_below x.low part.high) s in
      (two.0, and_true (is_below x.low part.high) _ two.1 (and_true (is_text (text_of x.low)) (is_child x.child) f.0.1.0.0 f.0.1.1))

  first_is : (xs : List BranchRow) → 1 ≤ length xs → AllFrom (λ b x. IsTrue (follows branch_below branch_trans is_first b x)) [] xs → IsFirst part.low xs
  first_is [] one h = absurd (omega arith)
  first_is (x ∷ xs) one h = same_bound x.low part.low h.0

  branch_keeps : (xs : List BranchRow) → used ≤ 4051 → 1 ≤ length xs → AllFrom (BranchFits part used) [] xs
      → IsFirst part.low xs × IsTrue (rises branch_below xs) × IsTrue (list_all (branch_row_fits part.high) xs) × (used + sum_by branch_row_size xs ≤ 4051)
  branch_keeps xs le one h =
      let place = each (BranchFits part used) (λ b x. IsTrue (follows branch_below branch_trans is_first b x)) (λ b x f. (its_place b x f).0) [] xs h in
      let room = they_fit branch_row_size 4051 used [] xs (omega arith) (each (BranchFits part used) (λ b x. IsTrue (leb (used + sum_by branch_row_size b + branch_row_size x) 4051)) (λ b x f. f.1) [] xs h) in (
        first_is xs one place,
        they_rise branch_below branch_trans is_first xs place,
        all_from (branch_row_fits part.high) [] xs (each (BranchFits part used) (λ b x. IsTrue (branch_row_fits part.high x)) (λ b x f. (its_place b x f).1) [] xs h),
        omega arith,
      )

  first_fits : (xs : List BranchRow) → IsFirst part.low xs → (x : BranchRow) → slice_get xs 0 ≡ Some x → is_first x ≡ true
  first_fits [] f x e = absurd cc
  first_fits (y ∷ xs) f x e = subst (λ (z : BranchRow). is_first z ≡ true) (some_is e) (bound_same y.low part.low f)
    where
      some_is : Some y ≡ Some x → y ≡ x
      some_is e = cc

  keeps_branch : (xs : List BranchRow) → IsFirst part.low xs → IsTrue (rises branch_below xs) → IsTrue (list_all (branch_row_fits part.high) xs) → used + sum_by branch_row_size xs ≤ 4051 → AllFrom (BranchFits part used) [] xs
  keeps_branch xs first rise all room =
      let a = they_follow branch_below branch_trans is_first xs (first_fits xs first) rise in
      let b = from_all (branch_row_fits part.high) [] xs all in
      let c = each_fits branch_row_size 4051 used [] xs (omega arith) in
      each
      (λ b x. (IsTrue (follows branch_below branch_trans is_first b x) × IsTrue (branch_row_fits part.high x)) × IsTrue (leb (used + sum_by branch_row_size b + branch_row_size x) 4051)) (BranchFits part used)
      (λ b x f.
      let g = both_true (is_below x.low part.high) _ f.0.1 in
      let k = both_true (is_text (text_of x.low)) (is_child x.child) g.1 in
      let low = is_there x.low part.high g.0 in
      let s = and_true (stands b x.low) (is_below x.low part.high) f.0.0 g.0 in
      ((low, ((k.0, subst (λ (at : Option (List ℕ)). IsTrue (stands b at && is_below at part.high)) low s), k.1)), f.1))
      [] xs
      (both (λ b x. IsTrue (follows branch_below branch_trans is_first b x) × IsTrue (branch_row_fits part.high x)) (λ b x. IsTrue (leb (used + sum_by branch_row_size b + branch_row_size x) 4051)) [] xs
      (both (λ b x. IsTrue (follows branch_below branch_trans is_first b x)) (λ b x. IsTrue (branch_row_fits part.high x)) [] xs a b) c)

  -- ---- rows of either kind

  abbrev pub RowsFit : ℕ → Rows → Type 0
  RowsFit level rows = KeepsRows level part rows × (used + rows_size rows ≤ 4051)

  as_leaf : List LeafRow × List ℕ → Read Rows
  as_leaf rows = Ok (Leaf rows.0, rows.1)

  as_branch : List BranchRow × List ℕ → Read Rows
  as_branch rows = Ok (Branch rows.0, rows.1)

  is_zero : (level : ℕ) → eqb level 0 ≡ true → level ≡ 0
  is_zero level h = grind (arith, nat_tests)

  zero_is : (level : ℕ) → level ≡ 0 → eqb level 0 ≡ true
  zero_is level h = grind (arith, nat_tests)

  is_more : (level : ℕ) → eqb level 0 ≡ false → 1 ≤ level
  is_more level h = grind (arith, nat_tests)

  one_at_least : (n : ℕ) → leb 1 n ≡ true → 1 ≤ n
  one_at_least n h = grind (arith, nat_tests)

  at_least_one : (n : ℕ) → 1 ≤ n → leb 1 n ≡ true
  at_least_one n h = grind (arith, nat_tests)

  not_empty : (xs : List BranchRow) → IsFirst part.low xs → 1 ≤ length xs
  not_empty [] f = absurd f
  not_empty (x ∷ xs) f = omega arith

  leaf_case : (level : ℕ) → used ≤ 4051 → eqb level 0 ≡ true → IsField (λ bytes. list_at w16 (is_row_count level) (leaf_row_at part used) bytes >>= as_leaf) rows_bytes (RowsFit level)
  unfolding as_leaf AllAlong
  leaf_case level le zero_level = record {
    takes = λ bytes y fits e.
        let b = bind_ok (list_at w16 (is_row_count level) (leaf_row_at part used) bytes) as_leaf y e in
        let t = (leaf_rows_field part used level).takes bytes b.0 fits b.1 in
        let k = leaf_keeps b.0.0 le t.1.1 in
        subst (λ (z : Rows × List ℕ). Takes bytes (rows_bytes z.0) z.1 × RowsFit level z.0) (ok_is (Leaf b.0.0, b.0.1) y b.2) (t.0, ((is_zero level zero_level, k.0, k.1), k.2));
    again = again;
    within = λ bytes left fits e.
        within_bind (list_at w16 (is_row_count level) (leaf_row_at part used) bytes) as_leaf left (length bytes) e (λ d h. (leaf_rows_field part used level).within bytes d fits h) (λ x h g. absurd (never x left g));
  }
    where
      never : (x : List LeafRow × List ℕ) (left : ℕ) → as_leaf x ≡ Err left → ⊥
      never x left e = absurd cc

      again : (rows : Rows) (rest : List ℕ) → RowsFit level rows → (list_at w16 (is_row_count level) (leaf_row_at part used) (rows_bytes rows ++ rest) >>= as_leaf) ≡ Ok (rows, rest)
      again (Leaf xs) rest fits = ap (λ (r : Read (List LeafRow)). r >>= as_leaf) ((leaf_rows_field part used level).again xs rest ((or_left _ _ zero_level, few_leaf xs (omega (arith, fits.1))), keeps_leaf xs fits.0.1 fits.0.2 fits.1))
      again (Branch xs) rest fits = absurd (omega (arith, is_zero level zero_level, fits.0.0))

  branch_case : (level : ℕ) → used ≤ 4051 → eqb level 0 ≡ false → IsField (λ bytes. list_at w16 (is_row_count level) (branch_row_at part used) bytes >>= as_branch) rows_bytes (RowsFit level)
  unfolding as_branch AllAlong
  branch_case level le some_level = record {
    takes = λ bytes y fits e.
        let b = bind_ok (list_at w16 (is_row_count level) (branch_row_at part used) bytes) as_branch y e in
        let t = (branch_rows_field part used level).takes bytes b.0 fits b.1 in
        let one = one_at_least (length b.0.0) (subst (λ (z : Bool). (z || leb 1 (length b.0.0)) ≡ true) some_level t.1.0.0) in
        let k = branch_keeps b.0.0 le one t.1.1 in
        subst (λ (z : Rows × List ℕ). Takes bytes (rows_bytes z.0) z.1 × RowsFit level z.0) (ok_is (Branch b.0.0, b.0.1) y b.2) (t.0, ((is_more level some_level, k.0, k.1, k.2), k.3));
    again = again;
    within = λ bytes left fits e.
        within_bind (list_at w16 (is_row_count level) (branch_row_at part used) bytes) as_branch left (length bytes) e (λ d h. (branch_rows_field part used level).within bytes d fits h) (λ x h g. absurd (never x left g));
  }
    where
      never : (x : List BranchRow × List ℕ) (left : ℕ) → as_branch x ≡ Err left → ⊥
      never x left e = absurd cc

      again : (rows : Rows) (rest : List ℕ) → RowsFit level rows → (list_at w16 (is_row_count level) (branch_row_at part used) (rows_bytes rows ++ rest) >>= as_branch) ≡ Ok (rows, rest)
      again (Leaf xs) rest fits = absurd (omega (arith, is_more level some_level, fits.0.0))
      again (Branch xs) rest fits =
          ap (λ (r : Read (List BranchRow)). r >>= as_branch)
          ((branch_rows_field part used level).again xs rest ((or_right (eqb level 0) _ (at_least_one (length xs) (not_empty xs fits.0.1)), few_branch xs (omega (arith, fits.1))), keeps_branch xs fits.0.1 fits.0.2 fits.0.3 fits.1))

  pub rows_field : (level : ℕ) → used ≤ 4051 → IsField (rows_at level part used) rows_bytes (RowsFit level)
  unfolding rows_at as_leaf as_branch
  rows_field level le = by (eqb level 0) refl
    where
      by : (b : Bool) → eqb level 0 ≡ b
          → IsField (λ bytes. cond b (list_at w16 (is_row_count level) (leaf_row_at part used) bytes >>= as_leaf) (list_at w16 (is_row_count level) (branch_row_at part used) bytes >>= as_branch)) rows_bytes (RowsFit level)
      by true e = leaf_case level le e
      by false e = branch_case level le e
