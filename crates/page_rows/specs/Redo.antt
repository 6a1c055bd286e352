-- What redoing a record on a page answers.
use Rattle.std.specs.Prelude.{◌≡◌, ℕ, ◌+◌, ◌<◌, ◌≤◌, List, take, Option, Some, None, is_some, Bool, true, false, IsTrue, insert, slice_set, slice_get, option_and_then}
use Rattle.std.specs.List.{sum_by}
use Rattle.std.specs.Option.{option_map}
use Rattle.store_model.specs.Operator.{meaning}
use Rattle.wal_record.specs.State.{leaf_rows, branch_rows, leaf_row_size, live_value, state_size, page_room}
use Rattle.wal_record.specs.Chains.{names}
use Rattle.wal_record.specs.Images.{applied, IsApplicable, OnPage, Fits, CanWrite, has_rows, lower_rows, upper_rows}
use Rattle.wal_record.specs.declared.page.PageState.{PageState}
use Rattle.wal_record.specs.declared.page.LeafRow.{LeafRow}
use Rattle.wal_record.specs.declared.page.BranchRow.{BranchRow}
use Rattle.wal_record.specs.declared.page.Rows.{Rows}
use Rattle.wal_record.specs.declared.page.Rows.TheVariants.{Leaf, Branch}
use Rattle.wal_record.specs.declared.record.Apply.{Apply}
use Rattle.wal_record.specs.declared.record.Record.{Record}
use Rattle.page_rows.specs.declared.spot.Spot.{Spot}
use Rattle.page_rows.specs.declared.spot.Spot.TheVariants.{Here, Gap}

-- the record names the page, and is applicable to its image
pub record IsRedoable (r : Record) (p : ℕ) (image : Option PageState) : Type 0 where
  pub names : IsTrue (names p r)
  pub applicable : IsApplicable r p image

-- true where that is so, and the image is then what the record makes of it; else false, and the image is as it was
abbrev pub Redone : Record → ℕ → Option PageState → Option PageState → Bool → Type 0
Redone r p old new true = IsRedoable r p old × (new ≡ applied r p old)
Redone r p old new false = (IsRedoable r p old → ⊥) × (new ≡ old)

-- the same of a record that names the page
abbrev pub Applied : Record → ℕ → Option PageState → Option PageState → Bool → Type 0
Applied r p old new true = IsApplicable r p old × (new ≡ applied r p old)
Applied r p old new false = (IsApplicable r p old → ⊥) × (new ≡ old)

-- a change that is made exactly where it may be made and what it makes fits
abbrev pub Changed : (PageState → Type 0) → (PageState → PageState) → PageState → PageState → Bool → Type 0
Changed May change old new true = May old × (state_size (change old) ≤ page_room) × (new ≡ change old)
Changed May change old new false = (May old → page_room < state_size (change old)) × (new ≡ old)

-- the same of a page that may have no image
abbrev pub OnImage : (PageState → Type 0) → (PageState → PageState) → Option PageState → Option PageState → Bool → Type 0
OnImage May change old new true = OnPage May old × Fits (option_map change old) × (new ≡ option_map change old)
OnImage May change old new false = (OnPage May old → Fits (option_map change old) → ⊥) × (new ≡ old)

abbrev pub Always : PageState → Type 0
Always s = Unit {0}

-- the rows of a leaf with this row at the spot of its key
abbrev pub placed : LeafRow → Spot → List LeafRow → List LeafRow
placed row (Here i) rows = slice_set rows i row
placed row (Gap i) rows = insert rows i row

-- rows at most so many bytes longer, and else the same
abbrev pub Placed : LeafRow → Spot → ℕ → List LeafRow → List LeafRow → Bool → Type 0
Placed row spot free old new true = (sum_by leaf_row_size (placed row spot old) ≤ sum_by leaf_row_size old + free) × (new ≡ placed row spot old)
Placed row spot free old new false = (sum_by leaf_row_size old + free < sum_by leaf_row_size (placed row spot old)) × (new ≡ old)

-- the rows of a leaf are no longer with this row at the spot of its key
abbrev pub IsNoLonger : LeafRow → Spot → PageState → Type 0
IsNoLonger row spot s = sum_by leaf_row_size (placed row spot (leaf_rows s.rows)) ≤ sum_by leaf_row_size (leaf_rows s.rows)

abbrev pub with_row : LeafRow → Spot → PageState → PageState
with_row row spot s = record s { rows = Leaf (placed row spot (leaf_rows s.rows)) }

-- the live value of the row at a spot
abbrev pub live_in : Rows → Spot → Option (List ℕ)
live_in (Leaf rows) (Here i) = option_and_then live_value (slice_get rows i)
live_in (Leaf rows) (Gap i) = None
live_in (Branch rows) spot = None

abbrev pub CanApplyTo : Apply → PageState → Type 0
CanApplyTo a s = CanWrite a.key a.old s × IsTrue (is_some (meaning a.operator a.old a.argument))

abbrev pub is_tombstone : LeafRow → Bool
is_tombstone row = row.tombstone

-- the first rows
abbrev pub first_rows : ℕ → Rows → Rows
first_rows m (Leaf rows) = Leaf (take m rows)
first_rows m (Branch rows) = Branch (take m rows)

-- so many rows stand below a bound, and the others are these: some on either side
pub record IsCut (at : Option (List ℕ)) (rows upper : Rows) (m : ℕ) : Type 0 where
  pub keeps : lower_rows at rows ≡ first_rows m rows
  pub others : upper ≡ upper_rows at rows
  pub goes : IsTrue (has_rows upper)
  pub stays : IsTrue (has_rows (lower_rows at rows))

abbrev pub CanCut : Option (List ℕ) → Rows → Rows → Type 0
CanCut at rows upper = (upper ≡ upper_rows at rows) × IsTrue (has_rows upper) × IsTrue (has_rows (lower_rows at rows))

-- a branch with this row in the gap before place i
abbrev pub with_branch_row : BranchRow → ℕ → PageState → PageState
with_branch_row row i s = record s { rows = Branch (insert (branch_rows s.rows) i row) }

-- a page is made where there is none
abbrev pub Made : PageState → Option PageState → Option PageState → Bool → Type 0
Made made old new true = (old ≡ None) × (new ≡ Some made)
Made made old new false = (old ≡ None → ⊥) × (new ≡ old)

-- two pages agree in what a split doesn't divide
abbrev pub IsSameFrame : PageState → PageState → Type 0
IsSameFrame child s = (child.level ≡ s.level) × (child.high ≡ s.high) × (child.foster ≡ s.foster)
