-- The parts of the rows of a page that is cut at its split point.
use Rattle.std.proofs.Common.{◌≡◌, ℕ, ◌+◌, ◌*◌, ◌<◌, ◌≤◌, true, leb, List, length, map, take, drop, Option, Some, None, sym, ap, subst, ◌∙◌, arith}
use Rattle.std.specs.Prelude.{filter, not, slice_get, ◌&&◌, ◌||◌, ◌==◌}
use Rattle.std.specs.List.{list_all, sum_by}
use Rattle.std.specs.Option.{option_map, option_map_or}
use Rattle.std.proofs.lemmas.Bool.{and_parts, and_from, not-true}
use Rattle.std.proofs.lemmas.List.{length-map}
use Rattle.store_model.specs.Range.{Interval, has_key, is_below}
use Rattle.wal_record.specs.State.{KeepsRows, IsFirst, leaf_below, branch_below, leaf_row_fits, branch_row_fits, leaf_row_size, branch_row_size, row_sizes, rows_size, split_point, is_text, is_key, is_value, is_child, text_of}
use Rattle.wal_record.specs.Images.{leaf_under, branch_under, lower_rows, upper_rows, has_rows}
use Rattle.wal_record.specs.Legal.{split_key}
use Rattle.wal_record.specs.declared.page.LeafRow.{LeafRow}
use Rattle.wal_record.specs.declared.page.BranchRow.{BranchRow}
use Rattle.wal_record.specs.declared.page.Rows.{Rows}
use Rattle.wal_record.specs.declared.page.Rows.TheVariants.{Leaf, Branch}
use Rattle.tree_laws.proofs.Keys.{in_parts, in_from}
use Rattle.tree_laws.proofs.RowLaws.{all_more, all_kept, rises_kept}
use Rattle.tree_laws.proofs.BranchLaws.{all_filtered, low_some}
use Rattle.foster_laws.proofs.CutRows.{at_place, all_at_place, cut_at, leaf_taken, leaf_left, branch_taken, branch_left, first_left}
use Rattle.foster_laws.proofs.HalfSizes.{le_true, true_le, kept_some, kept_less, kept_size, rest_size}

-- what a cut at the split point makes of rows that are at most c bytes long each
pub record Parts (c level : ℕ) (end : Option (List ℕ)) (rows : Rows) : Type 0 where
  pub some : 1 ≤ split_point (row_sizes rows)
  pub less : split_point (row_sizes rows) < length (row_sizes rows)
  pub key : List ℕ
  pub at : split_key rows ≡ Some key
  pub text : is_text key ≡ true
  pub ends : is_below (Some key) end ≡ true
  pub upper : KeepsRows level (record { low = Some key; high = end }) (upper_rows (Some key) rows)
  pub goes : has_rows (upper_rows (Some key) rows) ≡ true
  pub stays : has_rows (lower_rows (Some key) rows) ≡ true
  pub low_size : 2 * rows_size (lower_rows (Some key) rows) < rows_size rows + 2 * c
  pub up_size : 2 * rows_size (upper_rows (Some key) rows) ≤ rows_size rows

-- ---- leaves

key_parts : (key : List ℕ) → is_key key ≡ true → (1 ≤ length key) × (length key ≤ 64)
key_parts key h = let p = and_parts (leb 1 (length key)) (leb (length key) 64) h in (le_true 1 (length key) p.0, le_true (length key) 64 p.1)

pub leaf_row_most : (part : Interval) (row : LeafRow) → leaf_row_fits part row ≡ true → leb (leaf_row_size row) 324 ≡ true
leaf_row_most part row f =
    let rest = and_parts (is_key row.key && is_value row.value) (not row.tombstone || (length row.value == 0)) (and_parts (has_key part row.key) _ f).1 in
    let p = and_parts (is_key row.key) (is_value row.value) rest.0 in
    let k : (1 ≤ length row.key) × (length row.key ≤ 64) = key_parts row.key p.0 in
    let v : length row.value ≤ 256 = le_true (length row.value) 256 p.1 in
    true_le (leaf_row_size row) 324 (omega (arith, k, v))

key_text : (part : Interval) (row : LeafRow) → leaf_row_fits part row ≡ true → is_text row.key ≡ true
key_text part row f =
    let rest = and_parts (is_key row.key && is_value row.value) (not row.tombstone || (length row.value == 0)) (and_parts (has_key part row.key) _ f).1 in
    true_le (length row.key) 64 (key_parts row.key (and_parts (is_key row.key) (is_value row.value) rest.0).0).1

module _ (level : ℕ) (part : Interval) (rows : List LeafRow) (keeps : KeepsRows level part (Leaf rows)) (long : 648 ≤ sum_by leaf_row_size rows) where
  abbrev leaf_most : list_all (λ x. leb (leaf_row_size x) 324) rows ≡ true
  leaf_most = all_more (leaf_row_fits part) (λ x. leb (leaf_row_size x) 324) (leaf_row_most part) rows keeps.2

  abbrev lm : ℕ
  lm = split_point (map leaf_row_size rows)

  lless : lm < length rows
  lless = kept_less leaf_row_size 324 rows leaf_most (omega arith) long

  lsome : 1 ≤ lm
  lsome = kept_some leaf_row_size 324 rows leaf_most (omega arith) long

  leaf_parts_at : (r : LeafRow) → slice_get rows lm ≡ Some r → Parts 324 level part.high (Leaf rows)
  leaf_parts_at r e =
      let cut = cut_at (λ (x : LeafRow). Some x.key) rows lm r keeps.1 e in
      let fit = all_at_place (leaf_row_fits part) rows lm r keeps.2 e in
      let own = in_parts part r.key (and_parts _ _ fit).0 in
      let low : sum_by leaf_row_size (filter (leaf_under (Some r.key)) rows) ≡ sum_by leaf_row_size (take lm rows) = ap (sum_by leaf_row_size) cut.0 in
      let up : sum_by leaf_row_size (filter (λ row. not (leaf_under (Some r.key) row)) rows) ≡ sum_by leaf_row_size (drop lm rows) = ap (sum_by leaf_row_size) cut.1 in
      let a = kept_size leaf_row_size 324 rows leaf_most (omega arith) long in
      let b = rest_size leaf_row_size 324 rows leaf_most (omega arith) long in
      record {
        some = lsome;
        less = omega (arith, lless, length-map rows leaf_row_size);
        key = r.key;
        at = ap (option_map (λ (row : LeafRow). row.key)) e;
        text = key_text part r fit;
        ends = own.1;
        upper = (
          keeps.0,
          rises_kept leaf_below (λ row. not (leaf_under (Some r.key) row)) rows keeps.1,
          all_filtered (leaf_row_fits part) (λ row. not (leaf_under (Some r.key) row)) (leaf_row_fits (record { low = Some r.key; high = part.high }))
              (λ row f u. let p = and_parts _ _ f in and_from _ _ (in_from (record { low = Some r.key; high = part.high }) row.key (not-true _ u) (in_parts part row.key p.0).1) p.1) rows keeps.2,
        );
        goes = ap (λ (xs : List LeafRow). has_rows (Leaf xs)) cut.1 ∙ leaf_left rows lm lless;
        stays = ap (λ (xs : List LeafRow). has_rows (Leaf xs)) cut.0 ∙ leaf_taken rows lm lsome lless;
        low_size = omega (arith, low, a);
        up_size = omega (arith, up, b);
      }

  pub leaf_parts : Parts 324 level part.high (Leaf rows)
  leaf_parts = let x = at_place rows lm lless in leaf_parts_at x.0 x.1

-- ---- branches

pub branch_row_most : (end : Option (List ℕ)) (row : BranchRow) → branch_row_fits end row ≡ true → leb (branch_row_size row) 69 ≡ true
branch_row_most end row f =
    let t : length (text_of row.low) ≤ 64 = le_true (length (text_of row.low)) 64 (and_parts (is_text (text_of row.low)) (is_child row.child) (and_parts (is_below row.low end) _ f).1).0 in
    true_le (branch_row_size row) 69 (omega (arith, t))

module _ (level : ℕ) (part : Interval) (rows : List BranchRow) (keeps : KeepsRows level part (Branch rows)) (long : 138 ≤ sum_by branch_row_size rows) where
  abbrev branch_most : list_all (λ x. leb (branch_row_size x) 69) rows ≡ true
  branch_most = all_more (branch_row_fits part.high) (λ x. leb (branch_row_size x) 69) (branch_row_most part.high) rows keeps.3

  abbrev bm : ℕ
  bm = split_point (map branch_row_size rows)

  bless : bm < length rows
  bless = kept_less branch_row_size 69 rows branch_most (omega arith) long

  bsome : 1 ≤ bm
  bsome = kept_some branch_row_size 69 rows branch_most (omega arith) long

  branch_parts_at : (r : BranchRow) (k : List ℕ) → slice_get rows bm ≡ Some r → r.low ≡ Some k → Parts 69 level part.high (Branch rows)
  branch_parts_at r k e is =
      let cut' = cut_at (λ (x : BranchRow). x.low) rows bm r keeps.2 e in
      let cut : (filter (branch_under (Some k)) rows ≡ take bm rows) × (filter (λ row. not (branch_under (Some k) row)) rows ≡ drop bm rows) = subst (λ (b : Option (List ℕ)). (filter (branch_under b) rows ≡ take bm rows) × (filter (λ row. not (branch_under b row)) rows ≡ drop bm rows)) is cut' in
      let fit = all_at_place (branch_row_fits part.high) rows bm r keeps.3 e in
      let low : sum_by branch_row_size (filter (branch_under (Some k)) rows) ≡ sum_by branch_row_size (take bm rows) = ap (sum_by branch_row_size) cut.0 in
      let up : sum_by branch_row_size (filter (λ row. not (branch_under (Some k) row)) rows) ≡ sum_by branch_row_size (drop bm rows) = ap (sum_by branch_row_size) cut.1 in
      let a = kept_size branch_row_size 69 rows branch_most (omega arith) long in
      let b = rest_size branch_row_size 69 rows branch_most (omega arith) long in
      record {
        some = bsome;
        less = omega (arith, bless, length-map rows branch_row_size);
        key = k;
        at = ap (λ (o : Option BranchRow). option_map_or (λ (row : BranchRow). row.low) o None) e ∙ is;
        text = ap (λ (o : Option (List ℕ)). is_text (text_of o)) (sym is) ∙ (and_parts _ _ (and_parts _ _ fit).1).0;
        ends = ap (λ (o : Option (List ℕ)). is_below o part.high) (sym is) ∙ (and_parts _ _ fit).0;
        upper = (
          keeps.0,
          subst (λ (b : Option (List ℕ)). IsFirst b (filter (λ row. not (branch_under (Some k) row)) rows)) is (subst (IsFirst r.low) (sym cut.1) (first_left rows bm r e)),
          rises_kept branch_below (λ row. not (branch_under (Some k) row)) rows keeps.2,
          all_kept (branch_row_fits part.high) (λ row. not (branch_under (Some k) row)) rows keeps.3,
        );
        goes = ap (λ (xs : List BranchRow). has_rows (Branch xs)) cut.1 ∙ branch_left rows bm bless;
        stays = ap (λ (xs : List BranchRow). has_rows (Branch xs)) cut.0 ∙ branch_taken rows bm bsome bless;
        low_size = omega (arith, low, a);
        up_size = omega (arith, up, b);
      }

  pub branch_parts : Parts 69 level part.high (Branch rows)
  branch_parts =
      let x = at_place rows bm bless in
      let fit = all_at_place (branch_row_fits part.high) rows bm x.0 keeps.3 x.1 in
      branch_parts_at x.0 (text_of x.0.low) x.1 (low_some x.0.low part.high (and_parts _ _ fit).0)
