-- Where rows begin, by their places.
use Rattle.std.specs.Prelude.{◌≡◌, ℕ, List, Option, None, Bool, slice_get}
use Rattle.std.specs.Option.{option_map, option_map_or}
use Rattle.wal_record.specs.declared.page.LeafRow.{LeafRow}
use Rattle.wal_record.specs.State.{leaf_rows}
use Rattle.wal_record.specs.declared.page.BranchRow.{BranchRow}
use Rattle.wal_record.specs.declared.page.PageState.{PageState}
use Rattle.wal_record.specs.declared.page.Rows.TheVariants.{Leaf}

abbrev pub key_at : List LeafRow → ℕ → Option (List ℕ)
key_at rows i = option_map (λ (row : LeafRow). row.key) (slice_get rows i)

abbrev pub low_at : List BranchRow → ℕ → Option (List ℕ)
low_at rows i = option_map_or (λ (row : BranchRow). row.low) (slice_get rows i) None

abbrev pub is_tombstone : LeafRow → Bool
is_tombstone row = row.tombstone

-- the page is a leaf
abbrev pub IsLeafState : PageState → Type 0
IsLeafState s = s.rows ≡ Leaf (leaf_rows s.rows)
