-- The descent law: in the tree of a sound log a descent begins at page 1, and each of its steps leads to
-- a page between whose fence keys the key lies, until the leaf that has the key.
use Rattle.std.specs.Prelude.{◌≡◌, ◌≢◌, ℕ, ◌+◌, ◌-◌, List, [], Option, Some, false, IsTrue, slice_get}
use Rattle.std.specs.FinMap as finite
use Rattle.wal_record.specs.State.{has_own, has_within, own_end, live, leaf_rows, branch_rows, child_at}
use Rattle.wal_record.specs.Contents.{current}
use Rattle.wal_record.specs.Images.{image}
use Rattle.wal_record.specs.Tree.{Pointer, row_pointers, fence_at}
use Rattle.wal_record.specs.Sound.{AreLawful}
use Rattle.wal_record.specs.declared.page.PageState.{PageState}
use Rattle.wal_record.specs.declared.page.Foster.{Foster}
use Rattle.wal_record.specs.declared.page.Rows.TheVariants.{Leaf, Branch}
use Rattle.wal_record.specs.declared.record.Record.{Record}

-- the page of the row that covers the key
pub record ToChild (img : ℕ → Option PageState) (s : PageState) (key : List ℕ) : Type 0 where
  pub page : ℕ
  pub state : PageState
  pub row : child_at key (branch_rows s.rows) ≡ Some page
  pub image : img page ≡ Some state
  pub level : state.level + 1 ≡ s.level
  pub within : IsTrue (has_within state key)

-- the foster child, where the key is behind the own part
pub record ToFoster (img : ℕ → Option PageState) (s : PageState) (key : List ℕ) : Type 0 where
  pub foster : Foster
  pub state : PageState
  pub there : s.foster ≡ Some foster
  pub image : img foster.child ≡ Some state
  pub level : state.level ≡ s.level
  pub low : state.low ≡ Some foster.key
  pub high : state.high ≡ s.high
  pub within : IsTrue (has_within state key)

-- what the parent promises of the child in a slot: its level, its separator, and the next one or the end of the own part
abbrev pub slot_pointer : PageState → ℕ → Option Pointer
slot_pointer s i = slice_get (row_pointers (s.level - 1) (own_end s) (branch_rows s.rows)) i

-- a descent begins at page 1, and each of its steps leads to a page between whose fence keys the key lies
pub record Descent (img : ℕ → Option PageState) (value : List ℕ → Option (List ℕ)) : Type 0 where
  pub root : (s : PageState) → img 1 ≡ Some s → (key : List ℕ) → IsTrue (has_within s key)
  -- no step is breached
  pub slot : (p : ℕ) (s : PageState) → img p ≡ Some s → (i : ℕ) (x : Pointer) → slot_pointer s i ≡ Some x → fence_at img x.child ≡ Some x.fence
  pub child : (p : ℕ) (s : PageState) → img p ≡ Some s → (key : List ℕ) → IsTrue (has_own s key) → s.rows ≡ Branch (branch_rows s.rows) → ToChild img s key
  pub foster : (p : ℕ) (s : PageState) → img p ≡ Some s → (key : List ℕ) → IsTrue (has_within s key) → has_own s key ≡ false → ToFoster img s key
  pub leaf : (p : ℕ) (s : PageState) → img p ≡ Some s → (key : List ℕ) → IsTrue (has_own s key) → s.rows ≡ Leaf (leaf_rows s.rows) → live (leaf_rows s.rows) key ≡ value key

abbrev pub DescentLaw : List Record → Type 0
DescentLaw log = AreLawful log → log ≢ [] → Descent (image log) (λ key. finite.get (current log) key)
