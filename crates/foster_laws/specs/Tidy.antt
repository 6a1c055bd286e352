-- The tidy path of a write: on the way from the root to the leaf of a key no page keeps a foster child that could have
-- been adopted, or that a split or a growing root could have made room for.
use Rattle.std.specs.Prelude.{◌≡◌, ◌⊎◌, ℕ, ◌+◌, ◌<◌, List, length, Option, Some, IsTrue, is_some}
use Rattle.wal_record.specs.State.{has_own, free_bytes, branch_rows, child_at}
use Rattle.wal_record.specs.Checkpoints.{limit_of}
use Rattle.wal_record.specs.Images.{image}
use Rattle.wal_record.specs.Sound.{used}
use Rattle.wal_record.specs.declared.page.PageState.{PageState}
use Rattle.wal_record.specs.declared.page.Foster.{Foster}
use Rattle.wal_record.specs.declared.record.Record.{Record}
use Rattle.foster_laws.specs.Descents.{walk}

-- the store has no room for a page of the structure, beside what a write may need
abbrev pub IsFull : List Record → Type 0
IsFull log = limit_of log < used log + 3

-- the parent has no room for the row that leads to this foster child
abbrev pub Crowds : PageState → Foster → Type 0
Crowds s f = free_bytes s < 5 + length f.key

-- the root has a foster child only at the highest level, or where the store is full
abbrev pub IsTidyRoot : (ℕ → Option PageState) → Type 0 → Type 0
IsTidyRoot img full = (s : PageState) → img 1 ≡ Some s → IsTrue (is_some s.foster) → (s.level ≡ 255) ⊎ full

-- the child that a page's row leads the key to has a foster child only where the store is full, and the page has no
-- room for the row
abbrev pub IsTidyAt : (ℕ → Option PageState) → Type 0 → List ℕ → ℕ → Type 0
IsTidyAt img full key p =
    (s : PageState) → img p ≡ Some s → IsTrue (has_own s key) → (q : ℕ) → child_at key (branch_rows s.rows) ≡ Some q
    → (t : PageState) → img q ≡ Some t → (f : Foster) → t.foster ≡ Some f → full × Crowds s f

-- of the path from the root to the leaf of the key, page after page
pub record IsTidy (log : List Record) (key : List ℕ) : Type 0 where
  pub root : IsTidyRoot (image log) (IsFull log)
  pub children : (k : ℕ) → IsTidyAt (image log) (IsFull log) key (walk (image log) key k 1)
