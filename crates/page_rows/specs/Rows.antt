-- The rows of a page by their places, counted from 0.
use Rattle.std.specs.Prelude.{◌≡◌, ℕ, ◌<◌, ◌≤◌, List, [], length, insert, slice_set, slice_get, Option, Some, None, true, false, suc, IsTrue}
use Rattle.std.specs.Ordering.{nat_cmp}
use Rattle.std.specs.declared.cmp.Ordering.{Ordering}
use Rattle.std.specs.declared.cmp.Ordering.TheVariants.{Greater}
use Rattle.std.specs.Cmp.Lexicographic.{slice_cmp}
use Rattle.std.specs.List.{HoldsAt}
use Rattle.std.specs.List.Sorted.{IsPartitionPoint}
use Rattle.store_model.specs.Range.{IsBelow}
use Rattle.wal_record.specs.State.{rises, leaf_below, branch_below}
use Rattle.wal_record.specs.declared.page.LeafRow.{LeafRow}
use Rattle.wal_record.specs.declared.page.BranchRow.{BranchRow}
use Rattle.wal_record.specs.declared.page.Rows.{Rows}
use Rattle.wal_record.specs.declared.page.Rows.TheVariants.{Leaf, Branch}
use Rattle.page_rows.specs.declared.spot.Spot.{Spot}
use Rattle.page_rows.specs.declared.spot.Spot.TheVariants.{Here, Gap}

abbrev pub row_count : Rows → ℕ
row_count (Leaf rows) = length rows
row_count (Branch rows) = length rows

abbrev pub IsLeaf : Rows → Type 0
IsLeaf (Leaf rows) = Unit {0}
IsLeaf (Branch rows) = ⊥

abbrev pub IsBranch : Rows → Type 0
IsBranch (Leaf rows) = ⊥
IsBranch (Branch rows) = Unit {0}

-- each row is below all that follow it
abbrev pub Rise : Rows → Type 0
Rise (Leaf rows) = IsTrue (rises leaf_below rows)
Rise (Branch rows) = IsTrue (rises branch_below rows)

-- ---- where a key stands

-- where a row begins
abbrev pub leaf_at : LeafRow → Option (List ℕ)
leaf_at row = Some row.key

abbrev pub branch_at : BranchRow → Option (List ℕ)
branch_at row = row.low

-- how a bound stands to a key; the top is above all keys
abbrev pub bound_cmp : Option (List ℕ) → List ℕ → Ordering
bound_cmp None key = Greater
bound_cmp (Some text) key = slice_cmp nat_cmp text key

-- a row begins at the key; or all rows before the place begin below it, and all from there on above it
abbrev pub IsSpotIn : {A : Type 0} → (A → Option (List ℕ)) → List ℕ → List A → Spot → Type 0
IsSpotIn begin key rows (Here i) = (suc i ≤ length rows) × HoldsAt (λ row. begin row ≡ Some key) rows i
IsSpotIn begin key rows (Gap i) = (i ≤ length rows) × IsPartitionPoint (λ row. IsBelow (begin row) (Some key)) (λ row. IsBelow (Some key) (begin row)) rows i

abbrev pub IsSpot : List ℕ → Rows → Spot → Type 0
IsSpot key (Leaf rows) spot = IsSpotIn leaf_at key rows spot
IsSpot key (Branch rows) spot = IsSpotIn branch_at key rows spot

-- the first i rows of a branch begin below the key, the others above it
abbrev pub BranchGap : List ℕ → List BranchRow → ℕ → Type 0
BranchGap key rows i = IsPartitionPoint (λ row. IsBelow (branch_at row) (Some key)) (λ row. IsBelow (Some key) (branch_at row)) rows i

-- a place that a row has, or a gap between rows
abbrev pub IsWithin : Spot → ℕ → Type 0
IsWithin (Here i) n = i < n
IsWithin (Gap i) n = i ≤ n

-- ---- changed rows

-- with a row more at this place
abbrev pub with_row_in : Rows → ℕ → LeafRow → Rows
with_row_in (Leaf rows) i row = Leaf (insert rows i row)
with_row_in (Branch rows) i row = Branch rows

-- with the row at this place changed
abbrev pub changed_at : List LeafRow → ℕ → (LeafRow → LeafRow) → Option LeafRow → List LeafRow
changed_at rows i change None = rows
changed_at rows i change (Some row) = slice_set rows i (change row)

abbrev pub with_row_at : Rows → ℕ → (LeafRow → LeafRow) → Rows
with_row_at (Leaf rows) i change = Leaf (changed_at rows i change (slice_get rows i))
with_row_at (Branch rows) i change = Branch rows

-- the same key with this value, live
abbrev pub valued : List ℕ → LeafRow → LeafRow
valued value row = record { key = row.key; tombstone = false; value = value }

-- a tombstone has no value
abbrev pub buried : LeafRow → LeafRow
buried row = record { key = row.key; tombstone = true; value = [] }
