-- The well-formed Foster B-tree (Graefe, Kimura and Kuno 2012): each page but the root has one incoming
-- pointer, from a branch row or a foster parent, which agrees with its level and its fence keys, and
-- the leaves together have the contents.
use Rattle.std.specs.Prelude.{◌≡◌, ℕ, ◌+◌, ◌-◌, ◌≤◌, zero, suc, nat_le, List, [], ◌∷◌, ◌++◌, Option, Some, None, Bool, true, false, ◌&&◌, ◌==◌, IsTrue, is_some}
use Rattle.std.specs.Option.{option_map}
use Rattle.wal_record.specs.State.{KeepsState, own_end, has_own, live, leaf_rows, branch_rows}
use Rattle.wal_record.specs.declared.page.PageState.{PageState}
use Rattle.wal_record.specs.declared.page.BranchRow.{BranchRow}
use Rattle.wal_record.specs.declared.page.Foster.{Foster}
use Rattle.wal_record.specs.declared.page.Rows.TheVariants.{Leaf}

-- ---- pointers

-- a level and two fence keys
pub record Fence : Type 0 where
  pub level : ℕ
  pub low : Option (List ℕ)
  pub high : Option (List ℕ)

abbrev pub fence_of : PageState → Fence
fence_of s = record { level = s.level; low = s.low; high = s.high }

-- a page, and what is promised of it
pub record Pointer : Type 0 where
  pub child : ℕ
  pub fence : Fence

-- the first separator, or the end where there is none
abbrev pub first_low : Option (List ℕ) → List BranchRow → Option (List ℕ)
first_low end [] = end
first_low end (row ∷ rows) = row.low

-- of branch rows: the child has this level, and the keys up to the next separator or the end
abbrev pub row_pointers : ℕ → Option (List ℕ) → List BranchRow → List Pointer
row_pointers level end [] = []
row_pointers level end (row ∷ rows) = record { child = row.child; fence = record { level = level; low = row.low; high = first_low end rows } } ∷ row_pointers level end rows

-- of a foster field: the child has the level and the high fence of its foster parent
abbrev pub foster_pointers : ℕ → Option (List ℕ) → Option Foster → List Pointer
foster_pointers level high None = []
foster_pointers level high (Some f) = record { child = f.child; fence = record { level = level; low = Some f.key; high = high } } ∷ []

abbrev pub pointers : PageState → List Pointer
pointers s = row_pointers (s.level - 1) (own_end s) (branch_rows s.rows) ++ foster_pointers s.level s.high s.foster

abbrev pub one_if : Bool → ℕ
one_if true = 1
one_if false = 0

abbrev pub count_to : ℕ → List Pointer → ℕ
count_to c [] = 0
count_to c (p ∷ ps) = one_if (p.child == c) + count_to c ps

abbrev pub count_at : ℕ → Option PageState → ℕ
count_at c None = 0
count_at c (Some s) = count_to c (pointers s)

-- how many pointers to page c stand on the pages 1 to n
abbrev pub incoming : (ℕ → Option PageState) → ℕ → ℕ → ℕ
incoming img zero c = 0
incoming img (suc n) c = incoming img n c + count_at c (img (suc n))

-- ---- the tree

abbrev pub fence_at : (ℕ → Option PageState) → ℕ → Option Fence
fence_at img p = option_map fence_of (img p)

-- each pointer leads to a page with the fence that it promises
abbrev pub AllAgree : (ℕ → Option PageState) → List Pointer → Type 0
AllAgree img [] = Unit {0}
AllAgree img (p ∷ ps) = (fence_at img p.child ≡ Some p.fence) × AllAgree img ps

-- a leaf whose own part has the key
pub record LeafOf (img : ℕ → Option PageState) (key : List ℕ) : Type 0 where
  pub page : ℕ
  pub state : PageState
  pub image : img page ≡ Some state
  pub leaf : state.rows ≡ Leaf (leaf_rows state.rows)
  pub own : IsTrue (has_own state key)

-- the pages 1 to n are a tree with this value at each key
pub record Tree (img : ℕ → Option PageState) (n : ℕ) (value : List ℕ → Option (List ℕ)) : Type 0 where
  pub some : 1 ≤ n
  pub inside : (p : ℕ) (s : PageState) → img p ≡ Some s → (1 ≤ p) × (p ≤ n)
  pub made : (p : ℕ) → 1 ≤ p → p ≤ n → IsTrue (is_some (img p))
  -- each page keeps the rules of a state
  pub keeps : (p : ℕ) (s : PageState) → img p ≡ Some s → KeepsState s
  -- the root has all keys
  pub root : (s : PageState) → img 1 ≡ Some s → (s.low ≡ Some []) × (s.high ≡ None)
  -- page 1 has no incoming pointer, and each other page has one
  pub once : (c : ℕ) → incoming img n c ≡ one_if (nat_le 2 c && nat_le c n)
  pub agrees : (p : ℕ) (s : PageState) → img p ≡ Some s → AllAgree img (pointers s)
  -- each key lies in the own part of one leaf, whose live value is the key's
  pub covers : (key : List ℕ) → LeafOf img key
  pub apart : (key : List ℕ) (a b : LeafOf img key) → a.page ≡ b.page
  pub values : (key : List ℕ) (a : LeafOf img key) → live (leaf_rows a.state.rows) key ≡ value key
