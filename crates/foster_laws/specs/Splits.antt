-- The split law: a page that has to be split is split at its split point into two halves that keep the
-- rules of a state and have room for any row.
use Rattle.std.specs.Prelude.{◌≡◌, ℕ, ◌<◌, ◌≤◌, List, length, Option, Some, false, ◌||◌, ◌&&◌, IsTrue}
use Rattle.store_model.specs.Range.{is_below}
use Rattle.wal_record.specs.Rules.{is_maybe_value}
use Rattle.wal_record.specs.State.{KeepsState, has_own, leaf_rows, branch_rows, live, row_sizes, split_point, fits, free_bytes, is_key, is_child}
use Rattle.wal_record.specs.Images.{with_value, upper_rows, lower_half, CanSplit}
use Rattle.wal_record.specs.Legal.{Overflows, split_key, MaySplit}
use Rattle.wal_record.specs.declared.page.PageState.{PageState}
use Rattle.wal_record.specs.declared.page.Rows.TheVariants.{Leaf, Branch}
use Rattle.wal_record.specs.declared.record.Split.{Split}
use Rattle.foster_laws.specs.Purges.{has_tombstone}

-- the new page of a split: the upper rows, with the level, the high fence and the foster child
abbrev pub upper_half : PageState → PageState
upper_half s = record { level = s.level; low = split_key s.rows; high = s.high; foster = s.foster; rows = upper_rows (split_key s.rows) s.rows }

-- any row that a leaf may have fits there
abbrev pub HasRoomForRow : PageState → Type 0
HasRoomForRow s = (key : List ℕ) (value : Option (List ℕ)) → IsTrue (is_key key) → IsTrue (is_maybe_value value) → IsTrue (fits (with_value key value s))

-- the halves of a page
pub record Halves (x : Split) (s : PageState) : Type 0 where
  pub some : 1 ≤ split_point (row_sizes s.rows)
  pub less : split_point (row_sizes s.rows) < length (row_sizes s.rows)
  pub can : CanSplit x s
  pub may : MaySplit x s
  pub lower : KeepsState (lower_half x s)
  pub upper : KeepsState x.child_state
  -- a key of the own part lies in that of one half
  pub whole : (key : List ℕ) → has_own s key ≡ (has_own (lower_half x s) key || has_own x.child_state key)
  pub apart : (key : List ℕ) → (has_own (lower_half x s) key && has_own x.child_state key) ≡ false

pub record LeafHalves (x : Split) (s : PageState) : Type 0 where
  pub halves : Halves x s
  pub lower_leaf : (lower_half x s).rows ≡ Leaf (leaf_rows (lower_half x s).rows)
  pub upper_leaf : x.child_state.rows ≡ Leaf (leaf_rows x.child_state.rows)
  pub lower_room : HasRoomForRow (lower_half x s)
  pub upper_room : HasRoomForRow x.child_state
  -- each half has the live values of its keys
  pub lower_values : (key : List ℕ) → IsTrue (is_below (Some key) x.child_state.low) → live (leaf_rows (lower_half x s).rows) key ≡ live (leaf_rows s.rows) key
  pub upper_values : (key : List ℕ) → is_below (Some key) x.child_state.low ≡ false → live (leaf_rows x.child_state.rows) key ≡ live (leaf_rows s.rows) key

pub record BranchHalves (x : Split) (s : PageState) : Type 0 where
  pub halves : Halves x s
  pub lower_branch : (lower_half x s).rows ≡ Branch (branch_rows (lower_half x s).rows)
  pub upper_branch : x.child_state.rows ≡ Branch (branch_rows x.child_state.rows)
  pub lower_room : 69 ≤ free_bytes (lower_half x s)
  pub upper_room : 69 ≤ free_bytes x.child_state

pub record SplitLaw (s : PageState) (x : Split) : Type 0 where
  -- a leaf without tombstones, into which a value doesn't fit
  pub leaf : KeepsState s → s.rows ≡ Leaf (leaf_rows s.rows) → has_tombstone s ≡ false
      → (key : List ℕ) (value : Option (List ℕ)) → IsTrue (is_key key) → IsTrue (is_maybe_value value) → Overflows s key value
      → x.child_state ≡ upper_half s → IsTrue (is_child x.child) → LeafHalves x s
  -- a branch that the longest row may not fit into
  pub branch : KeepsState s → s.rows ≡ Branch (branch_rows s.rows) → free_bytes s < 69 → x.child_state ≡ upper_half s → IsTrue (is_child x.child) → BranchHalves x s
