-- What a descent of a write keeps of the page in hand: the path from the root to it is tidy.
use Rattle.std.specs.Prelude.{◌≡◌, ℕ, List, Option, Some, None, true, false, IsTrue}
use Rattle.std.specs.Option.{option_map}
use Rattle.wal_record.specs.State.{has_own, branch_rows, child_at}
use Rattle.wal_record.specs.Images.{image, IsLeafOf}
use Rattle.wal_record.specs.declared.page.PageState.{PageState}
use Rattle.wal_record.specs.declared.page.Foster.{Foster}
use Rattle.wal_record.specs.declared.record.Record.{Record}
use Rattle.foster_laws.specs.Tidy.{IsFull, Crowds, IsTidyRoot, IsTidy}

-- the path to a page: through rows, where the child is tidy, and along foster pointers
pub data TidyPath (img : ℕ → Option PageState) (full : Type 0) (key : List ℕ) : ℕ → Type 0 where
  root : IsTidyRoot img full → TidyPath img full key 1
  child : (p q : ℕ) (s : PageState) → TidyPath img full key p → img p ≡ Some s → has_own s key ≡ true → child_at key (branch_rows s.rows) ≡ Some q
      → ((t : PageState) → img q ≡ Some t → (f : Foster) → t.foster ≡ Some f → full × Crowds s f) → TidyPath img full key q
  foster : (p q : ℕ) (s : PageState) → TidyPath img full key p → img p ≡ Some s → has_own s key ≡ false → option_map (λ (f : Foster). f.child) s.foster ≡ Some q → TidyPath img full key q

abbrev pub TidyTo : List Record → List ℕ → ℕ → Type 0
TidyTo log key p = TidyPath (image log) (IsFull log) key p

-- a descent begins at the root, once it doesn't have to grow
pub record PathBeginsLaw (log : List Record) (key : List ℕ) (s : PageState) : Type 0 where
  pub single : image log 1 ≡ Some s → s.foster ≡ None → TidyTo log key 1
  pub highest : image log 1 ≡ Some s → s.level ≡ 255 → TidyTo log key 1
  pub full : IsFull log → TidyTo log key 1

-- from the page s in hand to the page t that is taken next
pub record PathGoesOnLaw (log : List Record) (key : List ℕ) (p q : ℕ) (s t : PageState) : Type 0 where
  -- to a child without a foster child
  pub single : TidyTo log key p → image log p ≡ Some s → IsTrue (has_own s key) → child_at key (branch_rows s.rows) ≡ Some q → image log q ≡ Some t → t.foster ≡ None → TidyTo log key q
  -- to a child whose foster child stays
  pub crowded : TidyTo log key p → image log p ≡ Some s → IsTrue (has_own s key) → child_at key (branch_rows s.rows) ≡ Some q → image log q ≡ Some t
      → (f : Foster) → t.foster ≡ Some f → IsFull log → Crowds s f → TidyTo log key q
  -- along the foster pointer
  pub foster : TidyTo log key p → image log p ≡ Some s → has_own s key ≡ false → (f : Foster) → s.foster ≡ Some f → f.child ≡ q → TidyTo log key q

-- at the leaf the whole path is tidy
pub record PathEndsLaw (log : List Record) (key : List ℕ) (p : ℕ) (s : PageState) : Type 0 where
  pub tidy : TidyTo log key p → image log p ≡ Some s → IsLeafOf key s → IsTidy log key
