-- Page images: what a record does to a page that it names, where it is applicable, and the page that a
-- log makes.
use Rattle.std.specs.Prelude.{◌≡◌, ℕ, ◌+◌, ◌<◌, ◌≤◌, List, [], ◌∷◌, filter, Option, Some, None, Bool, true, false, not, ◌||◌, ◌==◌, if◌then◌else◌, IsTrue, is_some}
use Rattle.std.specs.List.{list_any}
use Rattle.std.specs.Option.{option_map}
use Rattle.store_model.specs.Along.{along}
use Rattle.store_model.specs.Range.{is_below}
use Rattle.store_model.specs.Operator.{meaning}
use Rattle.wal_record.specs.State.{has_own, leaf_rows, branch_rows, live, row_of, put_row, put_branch_row, child_at, separates, text_of, state_size, page_room}
use Rattle.wal_record.specs.Chains.{names}
use Rattle.wal_record.specs.declared.page.PageState.{PageState}
use Rattle.wal_record.specs.declared.page.LeafRow.{LeafRow}
use Rattle.wal_record.specs.declared.page.BranchRow.{BranchRow}
use Rattle.wal_record.specs.declared.page.Rows.{Rows}
use Rattle.wal_record.specs.declared.page.Rows.TheVariants.{Leaf, Branch}
use Rattle.wal_record.specs.declared.record.Split.{Split}
use Rattle.wal_record.specs.declared.record.Grow.{Grow}
use Rattle.wal_record.specs.declared.record.Adopt.{Adopt}
use Rattle.wal_record.specs.declared.record.Record.{Record}
use Rattle.wal_record.specs.declared.record.Record.TheVariants as kinds

-- ---- what a record does to a page

-- of Format: an empty leaf that has all keys
abbrev pub first_page : PageState
first_page = record { level = 0; low = Some []; high = None; foster = None; rows = Leaf [] }

-- of Write, Apply and Undo: the key's row has this value, or is a tombstone
abbrev pub with_value : List ℕ → Option (List ℕ) → PageState → PageState
with_value key v s = record s { rows = Leaf (put_row (row_of key v) (leaf_rows s.rows)) }

-- of Purge: no tombstones
abbrev pub is_live_row : LeafRow → Bool
is_live_row row = not row.tombstone

abbrev pub purged : PageState → PageState
purged s = record s { rows = Leaf (filter is_live_row (leaf_rows s.rows)) }

-- of Split: the rows below this bound stay, the others go to the foster child
abbrev pub leaf_under : Option (List ℕ) → LeafRow → Bool
leaf_under at row = is_below (Some row.key) at

abbrev pub branch_under : Option (List ℕ) → BranchRow → Bool
branch_under at row = is_below row.low at

abbrev pub lower_rows : Option (List ℕ) → Rows → Rows
lower_rows at (Leaf rows) = Leaf (filter (leaf_under at) rows)
lower_rows at (Branch rows) = Branch (filter (branch_under at) rows)

abbrev pub upper_rows : Option (List ℕ) → Rows → Rows
upper_rows at (Leaf rows) = Leaf (filter (λ row. not (leaf_under at row)) rows)
upper_rows at (Branch rows) = Branch (filter (λ row. not (branch_under at row)) rows)

abbrev pub lower_half : Split → PageState → PageState
lower_half x s = record s { foster = Some (record { key = text_of x.child_state.low; child = x.child }); rows = lower_rows x.child_state.low s.rows }

-- of Adopt: the parent gets a row for the child, and the fosterer gives up its foster pointer
abbrev pub with_child : Adopt → PageState → PageState
with_child a s = record s { rows = Branch (put_branch_row (record { low = Some a.key; child = a.child }) (branch_rows s.rows)) }

abbrev pub without_foster : Adopt → PageState → PageState
without_foster a s = record s { foster = None; high = Some a.key }

-- of Grow: the root is one level higher, with one child, which has all keys
abbrev pub grown : ℕ → PageState → PageState
grown child s = record { level = s.level + 1; low = Some []; high = None; foster = None; rows = Branch (record { low = Some []; child = child } ∷ []) }

-- the page p after a record that names it
unfoldable pub applied : Record → ℕ → Option PageState → Option PageState
applied (kinds.Format f) p image = Some first_page
applied (kinds.Write w) p image = option_map (with_value w.key w.new) image
applied (kinds.Apply a) p image = option_map (with_value a.key (meaning a.operator a.old a.argument)) image
applied (kinds.Undo u) p image = option_map (with_value u.key u.restores) image
applied (kinds.Split x) p image = if p == x.page then option_map (lower_half x) image else Some x.child_state
applied (kinds.Adopt a) p image = if p == a.parent then option_map (with_child a) image else option_map (without_foster a) image
applied (kinds.Grow g) p image = if p == 1 then option_map (grown g.child) image else Some g.child_state
applied (kinds.Purge x) p image = option_map purged image
applied _ p image = image

-- the page image: the page after all records that name it
unfoldable pub image : List Record → ℕ → Option PageState
image log p = along (λ before s r. if names p r then applied r p s else s) None log

-- ---- where it is applicable

abbrev pub has_rows : Rows → Bool
has_rows (Leaf (row ∷ rows)) = true
has_rows (Branch (row ∷ rows)) = true
has_rows _ = false

-- a leaf whose own part has the key
pub record IsLeafOf (key : List ℕ) (s : PageState) : Type 0 where
  pub leaf : s.rows ≡ Leaf (leaf_rows s.rows)
  pub own : IsTrue (has_own s key)

pub record CanWrite (key : List ℕ) (old : Option (List ℕ)) (s : PageState) : Type 0 where
  pub at : IsLeafOf key s
  pub value : live (leaf_rows s.rows) key ≡ old

-- the key gets a value, or has one
pub record CanUndo (key : List ℕ) (restores : Option (List ℕ)) (s : PageState) : Type 0 where
  pub at : IsLeafOf key s
  pub there : IsTrue (is_some restores || is_some (live (leaf_rows s.rows) key))

-- the new page has the page's upper rows; some rows go, and some stay
pub record CanSplit (x : Split) (s : PageState) : Type 0 where
  pub level : x.child_state.level ≡ s.level
  pub high : x.child_state.high ≡ s.high
  pub foster : x.child_state.foster ≡ s.foster
  pub upper : x.child_state.rows ≡ upper_rows x.child_state.low s.rows
  pub goes : IsTrue (has_rows x.child_state.rows)
  pub stays : IsTrue (has_rows (lower_rows x.child_state.low s.rows))

-- a branch where the key is no separator yet, and has a row before it
pub record CanTakeChild (a : Adopt) (s : PageState) : Type 0 where
  pub branch : s.rows ≡ Branch (branch_rows s.rows)
  pub level : 1 ≤ s.level
  pub own : IsTrue (has_own s a.key)
  pub fresh : list_any (separates a.key) (branch_rows s.rows) ≡ false
  pub before : IsTrue (is_some (child_at a.key (branch_rows s.rows)))

pub record CanGiveChild (a : Adopt) (s : PageState) : Type 0 where
  pub foster : s.foster ≡ Some (record { key = a.key; child = a.child })

pub record CanGrow (g : Grow) (s : PageState) : Type 0 where
  pub foster : IsTrue (is_some s.foster)
  pub level : s.level < 255
  pub child : g.child_state ≡ s

pub record CanPurge (s : PageState) : Type 0 where
  pub leaf : s.rows ≡ Leaf (leaf_rows s.rows)
  pub some : IsTrue (list_any (λ row. row.tombstone) (leaf_rows s.rows))

-- the page has an image, of which P holds
abbrev pub OnPage : (PageState → Type 0) → Option PageState → Type 0
OnPage P image = (s : PageState) × (image ≡ Some s) × P s

unfoldable pub CanApply : Record → ℕ → Option PageState → Type 0
CanApply (kinds.Format f) p image = image ≡ None
CanApply (kinds.Write w) p image = OnPage (CanWrite w.key w.old) image
CanApply (kinds.Apply a) p image = OnPage (CanWrite a.key a.old) image × IsTrue (is_some (meaning a.operator a.old a.argument))
CanApply (kinds.Undo u) p image = OnPage (CanUndo u.key u.restores) image
CanApply (kinds.Split x) p image = (p ≡ x.page → OnPage (CanSplit x) image) × (p ≡ x.child → image ≡ None)
CanApply (kinds.Adopt a) p image = (p ≡ a.parent → OnPage (CanTakeChild a) image) × (p ≡ a.fosterer → OnPage (CanGiveChild a) image)
CanApply (kinds.Grow g) p image = (p ≡ 1 → OnPage (CanGrow g) image) × (p ≡ g.child → image ≡ None)
CanApply (kinds.Purge x) p image = OnPage CanPurge image
CanApply _ p image = ⊥

-- an image must fit
abbrev pub Fits : Option PageState → Type 0
Fits image = OnPage (λ s. state_size s ≤ page_room) image

-- the record is applicable to this image of the page p, which it names
pub record IsApplicable (r : Record) (p : ℕ) (image : Option PageState) : Type 0 where
  pub can : CanApply r p image
  pub fits : Fits (applied r p image)
