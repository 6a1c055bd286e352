-- The upper rows of a page that is split at its split point are those from there on.
use Rattle.std.proofs.Common.{◌≡◌, ℕ, ◌<◌, List, length, map, Option, Some, None, sym, ap, ◌∙◌, arith}
use Rattle.std.specs.Prelude.{filter, not}
use Rattle.std.specs.Option.{option_map, option_map_or}
use Rattle.std.proofs.lemmas.List.{length-map}
use Rattle.store_model.specs.Range.{Interval}
use Rattle.wal_record.specs.State.{KeepsState, KeepsRows, own_part, leaf_row_size, branch_row_size, row_sizes, split_point}
use Rattle.wal_record.specs.Images.{upper_rows, leaf_under, branch_under}
use Rattle.wal_record.specs.Legal.{split_key}
use Rattle.wal_record.specs.declared.page.PageState.{PageState}
use Rattle.wal_record.specs.declared.page.LeafRow.{LeafRow}
use Rattle.wal_record.specs.declared.page.BranchRow.{BranchRow}
use Rattle.wal_record.specs.declared.page.Rows.{Rows}
use Rattle.wal_record.specs.declared.page.Rows.TheVariants.{Leaf, Branch}
use Rattle.foster_laws.specs.Splits.{upper_half}
use Rattle.foster_laws.proofs.CutRows.{at_place, cut_at}
use Rattle.page_halves.specs.Parts.{rows_from}

upper_is : (level : ℕ) (part : Interval) (rows : Rows) → KeepsRows level part rows → split_point (row_sizes rows) < length (row_sizes rows) → upper_rows (split_key rows) rows ≡ rows_from (split_point (row_sizes rows)) rows
upper_is level part (Leaf rows) keeps less =
    let x = at_place rows (split_point (map leaf_row_size rows)) (omega (arith, less, length-map rows leaf_row_size)) in
    let at : split_key (Leaf rows) ≡ Some x.0.key = ap (option_map (λ (row : LeafRow). row.key)) x.1 in
    ap (λ (b : Option (List ℕ)). Leaf (filter (λ row. not (leaf_under b row)) rows)) at ∙ ap (λ (xs : List LeafRow). Leaf xs) (cut_at (λ (row : LeafRow). Some row.key) rows (split_point (map leaf_row_size rows)) x.0 keeps.1 x.1).1
upper_is level part (Branch rows) keeps less =
    let x = at_place rows (split_point (map branch_row_size rows)) (omega (arith, less, length-map rows branch_row_size)) in
    let at : split_key (Branch rows) ≡ x.0.low = ap (λ (o : Option BranchRow). option_map_or (λ (row : BranchRow). row.low) o None) x.1 in
    ap (λ (b : Option (List ℕ)). Branch (filter (λ row. not (branch_under b row)) rows)) at ∙ ap (λ (xs : List BranchRow). Branch xs) (cut_at (λ (row : BranchRow). row.low) rows (split_point (map branch_row_size rows)) x.0 keeps.2 x.1).1

pub half_is : (s : PageState) → KeepsState s → split_point (row_sizes s.rows) < length (row_sizes s.rows) → (m : ℕ) → m ≡ split_point (row_sizes s.rows) → (low : Option (List ℕ)) → low ≡ split_key s.rows → (rows : Rows) → rows ≡ rows_from m s.rows
    → ◌≡◌ {A = PageState} (record { level = s.level; low = low; high = s.high; foster = s.foster; rows = rows }) (upper_half s)
half_is s keeps less m is low at rows e =
    let same : rows ≡ upper_rows (split_key s.rows) s.rows = e ∙ ap (λ (k : ℕ). rows_from k s.rows) is ∙ sym (upper_is s.level (own_part s) s.rows keeps.rows less) in
    λ i. record { level = s.level; low = at i; high = s.high; foster = s.foster; rows = same i }
