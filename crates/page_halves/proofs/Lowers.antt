-- What a page that is split at its split point keeps: the rows below it. The first key above it is a key.
use Rattle.std.proofs.Common.{◌≡◌, ℕ, ◌<◌, ◌≤◌, true, leb, List, length, map, Option, Some, None, refl, sym, ap, subst, ◌∙◌, arith}
use Rattle.std.specs.Prelude.{filter}
use Rattle.std.specs.Option.{option_map, option_map_or}
use Rattle.std.proofs.lemmas.Bool.{and_parts}
use Rattle.std.proofs.lemmas.Bool.Decides.{nat_tests}
use Rattle.std.proofs.lemmas.List.{length-map}
use Rattle.store_model.specs.Range.{Interval, is_below}
use Rattle.wal_record.specs.State.{KeepsState, KeepsRows, own_part, leaf_row_size, leaf_row_fits, branch_row_size, branch_row_fits, row_sizes, split_point, text_of}
use Rattle.wal_record.specs.Images.{has_rows, lower_rows, leaf_under, branch_under}
use Rattle.wal_record.specs.Legal.{split_key}
use Rattle.wal_record.specs.declared.page.PageState.{PageState}
use Rattle.wal_record.specs.declared.page.LeafRow.{LeafRow}
use Rattle.wal_record.specs.declared.page.BranchRow.{BranchRow}
use Rattle.wal_record.specs.declared.page.Rows.{Rows}
use Rattle.wal_record.specs.declared.page.Rows.TheVariants.{Leaf, Branch}
use Rattle.foster_laws.proofs.CutRows.{at_place, all_at_place, cut_at, leaf_taken, branch_taken}
use Rattle.page_rows.specs.Redo.{first_rows}
use Rattle.page_rows.proofs.Cuts.{not_empty}
use Rattle.page_halves.specs.Parts.{lower_with}

le_true : (m n : ℕ) → leb m n ≡ true → m ≤ n
le_true m n h = grind (arith, nat_tests)

is_there : (o end : Option (List ℕ)) → is_below o end ≡ true → o ≡ Some (text_of o)
is_there None end h = absurd cc
is_there (Some t) end h = refl

short_key : (part : Interval) (row : LeafRow) → leaf_row_fits part row ≡ true → length row.key ≤ 64
short_key part row h = le_true (length row.key) 64 (and_parts _ _ (and_parts _ _ (and_parts _ _ (and_parts _ _ h).1).0).0).1

lower_is : (level : ℕ) (part : Interval) (rows : Rows) → KeepsRows level part rows → split_point (row_sizes rows) < length (row_sizes rows) → lower_rows (split_key rows) rows ≡ first_rows (split_point (row_sizes rows)) rows
lower_is level part (Leaf rows) keeps less =
    let x = at_place rows (split_point (map leaf_row_size rows)) (omega (arith, less, length-map rows leaf_row_size)) in
    let at : split_key (Leaf rows) ≡ Some x.0.key = ap (option_map (λ (row : LeafRow). row.key)) x.1 in
    ap (λ (b : Option (List ℕ)). Leaf (filter (leaf_under b) rows)) at ∙ ap (λ (xs : List LeafRow). Leaf xs) (cut_at (λ (row : LeafRow). Some row.key) rows (split_point (map leaf_row_size rows)) x.0 keeps.1 x.1).0
lower_is level part (Branch rows) keeps less =
    let x = at_place rows (split_point (map branch_row_size rows)) (omega (arith, less, length-map rows branch_row_size)) in
    let at : split_key (Branch rows) ≡ x.0.low = ap (λ (o : Option BranchRow). option_map_or (λ (row : BranchRow). row.low) o None) x.1 in
    ap (λ (b : Option (List ℕ)). Branch (filter (branch_under b) rows)) at ∙ ap (λ (xs : List BranchRow). Branch xs) (cut_at (λ (row : BranchRow). row.low) rows (split_point (map branch_row_size rows)) x.0 keeps.2 x.1).0

some_stay : (level : ℕ) (part : Interval) (rows : Rows) → KeepsRows level part rows → 1 ≤ split_point (row_sizes rows) → split_point (row_sizes rows) < length (row_sizes rows) → has_rows (lower_rows (split_key rows) rows) ≡ true
some_stay level part (Leaf rows) keeps some less = ap has_rows (lower_is level part (Leaf rows) keeps less) ∙ leaf_taken rows (split_point (map leaf_row_size rows)) some (omega (arith, less, length-map rows leaf_row_size))
some_stay level part (Branch rows) keeps some less = ap has_rows (lower_is level part (Branch rows) keeps less) ∙ branch_taken rows (split_point (map branch_row_size rows)) some (omega (arith, less, length-map rows branch_row_size))

-- the bound is there, and short
is_text_there : (level : ℕ) (part : Interval) (rows : Rows) → KeepsRows level part rows → split_point (row_sizes rows) < length (row_sizes rows) → (split_key rows ≡ Some (text_of (split_key rows))) × (length (text_of (split_key rows)) ≤ 64)
is_text_there level part (Leaf rows) keeps less =
    let m = split_point (map leaf_row_size rows) in
    let x = at_place rows m (omega (arith, less, length-map rows leaf_row_size)) in
    let at : split_key (Leaf rows) ≡ Some x.0.key = ap (option_map (λ (row : LeafRow). row.key)) x.1 in
    let fits = all_at_place (leaf_row_fits part) rows m x.0 keeps.2 x.1 in
    let short = short_key part x.0 fits in
    subst (λ (o : Option (List ℕ)). (o ≡ Some (text_of o)) × (length (text_of o) ≤ 64)) (sym at) (refl, short)
is_text_there level part (Branch rows) keeps less =
    let m = split_point (map branch_row_size rows) in
    let x = at_place rows m (omega (arith, less, length-map rows branch_row_size)) in
    let at : split_key (Branch rows) ≡ x.0.low = ap (λ (o : Option BranchRow). option_map_or (λ (row : BranchRow). row.low) o None) x.1 in
    let fits = all_at_place (branch_row_fits part.high) rows m x.0 keeps.3 x.1 in
    let parts = and_parts _ _ fits in
    subst (λ (o : Option (List ℕ)). (o ≡ Some (text_of o)) × (length (text_of o) ≤ 64)) (sym at) (is_there x.0.low part.high parts.0, le_true (length (text_of x.0.low)) 64 (and_parts _ _ parts.1).0)

-- it is a key
pub key_there : (s : PageState) → KeepsState s → 1 ≤ split_point (row_sizes s.rows) → split_point (row_sizes s.rows) < length (row_sizes s.rows) → (1 ≤ length (text_of (split_key s.rows))) × (length (text_of (split_key s.rows)) ≤ 64)
key_there s keeps some less =
    let there = is_text_there s.level (own_part s) s.rows keeps.rows less in (
      not_empty (text_of (split_key s.rows)) s.rows (subst (λ (o : Option (List ℕ)). has_rows (lower_rows o s.rows) ≡ true) there.0 (some_stay s.level (own_part s) s.rows keeps.rows some less)),
      there.1,
    )

pub kept_is : (s : PageState) → KeepsState s → split_point (row_sizes s.rows) < length (row_sizes s.rows) → (child m : ℕ) → m ≡ split_point (row_sizes s.rows) → (key : List ℕ) → key ≡ text_of (split_key s.rows) → (rows : Rows) → rows ≡ first_rows m s.rows
    → ◌≡◌ {A = PageState} (record s { foster = Some (record { key = key; child = child }); rows = rows }) (lower_with child s)
kept_is s keeps less child m is key k rows r =
    let same : rows ≡ lower_rows (split_key s.rows) s.rows = r ∙ ap (λ (n : ℕ). first_rows n s.rows) is ∙ sym (lower_is s.level (own_part s) s.rows keeps.rows less) in
    λ i. record s { foster = Some (record { key = k i; child = child }); rows = same i }
