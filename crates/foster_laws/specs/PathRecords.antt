-- What keeps the path to the page in hand tidy while it is in hand.
use Rattle.std.specs.Prelude.{◌≡◌, ◌≢◌, ◌⊎◌, ◌<◌, ◌≤◌, ℕ, List, [], ◌∷◌, ◌++◌, Some, None, Bool, true, false, IsTrue}
use Rattle.std.specs.List.{list_all}
use Rattle.store_model.specs.Range.{IsBelow}
use Rattle.wal_record.specs.Images.{image}
use Rattle.wal_record.specs.Sound.{AreLawful}
use Rattle.wal_record.specs.Tree.{fence_of}
use Rattle.wal_record.specs.declared.page.PageState.{PageState}
use Rattle.wal_record.specs.declared.record.Adopt.{Adopt}
use Rattle.wal_record.specs.declared.record.Grow.{Grow}
use Rattle.wal_record.specs.declared.record.Purge.{Purge}
use Rattle.wal_record.specs.declared.record.Split.{Split}
use Rattle.wal_record.specs.declared.record.Record.{Record}
use Rattle.wal_record.specs.declared.record.Record.TheVariants as kinds
use Rattle.tree_laws.specs.Descent.{slot_pointer}
use Rattle.foster_laws.specs.Enters.{AdoptEntered, GrowEntered, PurgeEntered, SplitEntered}
use Rattle.foster_laws.specs.Tidy.{IsFull}
use Rattle.foster_laws.specs.Paths.{TidyTo}

-- ---- pages on the way

-- only such a page can stand on a way before the other: it has a higher level, or the same and begins lower
abbrev pub IsBefore : PageState → PageState → Type 0
IsBefore u s = (s.level < u.level) ⊎ ((s.level ≡ u.level) × IsBelow u.low s.low)

-- the page in hand keeps its place and its foster child, and the pages before it stay as they are
pub record StaysTidy (old new : List Record) (p : ℕ) (s : PageState) : Type 0 where
  pub state : PageState
  pub here : image new p ≡ Some state
  pub level : state.level ≡ s.level
  pub foster : state.foster ≡ s.foster
  pub before : (x : ℕ) (u : PageState) → image old x ≡ Some u → IsBefore u s → image new x ≡ Some u
  pub full : IsFull old → IsFull new

pub record PathStaysLaw (old new : List Record) (key : List ℕ) (p : ℕ) (s : PageState) : Type 0 where
  pub tidy : AreLawful old → old ≢ [] → image old p ≡ Some s → StaysTidy old new p s → TidyTo old key p → TidyTo new key p

-- ---- records

-- of upkeep: it changes no page, and takes no room
abbrev pub is_upkeep_record : Record → Bool
is_upkeep_record (kinds.Written w) = true
is_upkeep_record (kinds.BackupDone b) = true
is_upkeep_record (kinds.Lost l) = true
is_upkeep_record (kinds.Restored r) = true
is_upkeep_record (kinds.RunDone d) = true
is_upkeep_record (kinds.Checkpoint c) = true
is_upkeep_record _ = false

pub record PathUpkeepLaw (log rest : List Record) (key : List ℕ) (p : ℕ) : Type 0 where
  pub tidy : log ≢ [] → IsTrue (list_all is_upkeep_record rest) → TidyTo log key p → TidyTo (log ++ rest) key p
  pub image : IsTrue (list_all is_upkeep_record rest) → (x : ℕ) → image (log ++ rest) x ≡ image log x

-- of the root that grows: it has no foster child then
pub record PathGrowLaw (log : List Record) (key : List ℕ) (g : Grow) (s : PageState) : Type 0 where
  pub tidy : GrowEntered log g s → TidyTo (log ++ kinds.Grow g ∷ []) key 1

-- of the page in hand, which takes the foster child of the page in a slot
pub record PathAdoptLaw (log : List Record) (key : List ℕ) (a : Adopt) (s f : PageState) (i : ℕ) : Type 0 where
  pub tidy : AreLawful log → log ≢ [] → image log a.parent ≡ Some s → image log a.fosterer ≡ Some f → 1 ≤ s.level → slot_pointer s i ≡ Some (record { child = a.fosterer; fence = fence_of f })
      → AdoptEntered log a s f → TidyTo log key a.parent → TidyTo (log ++ kinds.Adopt a ∷ []) key a.parent

-- of the leaf in hand
pub record PathPurgeLaw (log : List Record) (key : List ℕ) (x : Purge) (s : PageState) : Type 0 where
  pub tidy : AreLawful log → log ≢ [] → image log x.page ≡ Some s → PurgeEntered log x s → TidyTo log key x.page → TidyTo (log ++ kinds.Purge x ∷ []) key x.page

-- of another page, which can't stand before the one in hand
pub record PathSplitLaw (log : List Record) (key : List ℕ) (p : ℕ) (s : PageState) (x : Split) (u : PageState) : Type 0 where
  pub tidy : AreLawful log → log ≢ [] → image log p ≡ Some s → image log x.page ≡ Some u → image log x.child ≡ None → p ≢ x.page → (IsBefore u s → ⊥)
      → SplitEntered log x u → TidyTo log key p → TidyTo (log ++ kinds.Split x ∷ []) key p
