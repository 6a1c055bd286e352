-- The entering laws: what a lawful record of the tree makes of the pages, of room and of what is written.
use Rattle.std.specs.Prelude.{◌≡◌, ◌≢◌, ◌+◌, ℕ, suc, List, [], ◌∷◌, ◌++◌, length, Some, IsTrue, if◌then◌else◌}
use Rattle.store_model.specs.Range.{is_below}
use Rattle.wal_record.specs.State.{branch_rows, leaf_rows, has_own, live}
use Rattle.wal_record.specs.Chains.{head, pages}
use Rattle.wal_record.specs.OpenWrites.{open_writes}
use Rattle.wal_record.specs.Contents.{current, committed_contents}
use Rattle.wal_record.specs.Checkpoints.{limit_of}
use Rattle.wal_record.specs.Images.{image, lower_half, grown, with_child, without_foster, purged, with_value, IsLeafOf}
use Rattle.store_model.specs.Operator.{meaning}
use Rattle.wal_record.specs.declared.record.Apply.{Apply}
use Rattle.wal_record.specs.declared.record.Undo.{Undo}
use Rattle.wal_record.specs.declared.record.Write.{Write}
use Rattle.wal_record.specs.Sound.{IsLawful, AreLawful, used}
use Rattle.wal_record.specs.declared.page.PageState.{PageState}
use Rattle.wal_record.specs.declared.page.Rows.TheVariants.{Branch}
use Rattle.wal_record.specs.declared.record.Adopt.{Adopt}
use Rattle.wal_record.specs.declared.record.Grow.{Grow}
use Rattle.wal_record.specs.declared.record.Purge.{Purge}
use Rattle.wal_record.specs.declared.record.Split.{Split}
use Rattle.wal_record.specs.declared.record.Record.{Record}
use Rattle.wal_record.specs.declared.record.Record.TheVariants as kinds
use Rattle.wal_record.specs.Tree.{fence_of}
use Rattle.tree_laws.specs.Descent.{slot_pointer}
use Rattle.foster_laws.specs.Splits.{HasRoomForRow, LeafHalves}

-- the log with a record that names no transaction: so many pages more, and the same contents and open writes
pub record Entered (log : List Record) (r : Record) (more : ℕ) : Type 0 where
  pub lawful : AreLawful (log ++ r ∷ [])
  pub limit : limit_of (log ++ r ∷ []) ≡ limit_of log
  pub pages : pages (log ++ r ∷ []) ≡ pages log + more
  pub used : used (log ++ r ∷ []) ≡ used log + more
  pub current : current (log ++ r ∷ []) ≡ current log
  pub committed : committed_contents (log ++ r ∷ []) ≡ committed_contents log
  pub open_writes : (t : ℕ) → open_writes (log ++ r ∷ []) t ≡ open_writes log t

-- ---- splits

-- the pages behind a split of the page s
pub record SplitPages (log : List Record) (x : Split) (s : PageState) : Type 0 where
  pub page : image (log ++ kinds.Split x ∷ []) x.page ≡ Some (lower_half x s)
  pub child : image (log ++ kinds.Split x ∷ []) x.child ≡ Some x.child_state
  pub page_last : head (log ++ kinds.Split x ∷ []) x.page ≡ length log + 1
  pub child_last : head (log ++ kinds.Split x ∷ []) x.child ≡ length log + 1
  pub others : (p : ℕ) → p ≢ x.page → p ≢ x.child → image (log ++ kinds.Split x ∷ []) p ≡ image log p

pub record SplitEntered (log : List Record) (x : Split) (s : PageState) : Type 0 where
  pub entered : Entered log (kinds.Split x) 1
  pub pages : SplitPages log x s

pub record SplitEnters (log : List Record) (x : Split) (s : PageState) : Type 0 where
  pub pages : AreLawful log → log ≢ [] → image log x.page ≡ Some s → x.child ≡ suc (pages log) → SplitPages log x s
  pub entered : AreLawful log → log ≢ [] → image log x.page ≡ Some s → IsLawful log (kinds.Split x) → SplitEntered log x s

-- the page of the half whose own part has the key
abbrev pub half_page : Split → List ℕ → ℕ
half_page x key = if is_below (Some key) x.child_state.low then x.page else x.child

-- the half of a split leaf whose own part has the key: any row fits there
pub record HalfOf (log : List Record) (x : Split) (s : PageState) (key : List ℕ) : Type 0 where
  pub state : PageState
  pub image : image (log ++ kinds.Split x ∷ []) (half_page x key) ≡ Some state
  pub last : head (log ++ kinds.Split x ∷ []) (half_page x key) ≡ length log + 1
  pub at : IsLeafOf key state
  pub room : HasRoomForRow state
  pub value : live (leaf_rows state.rows) key ≡ live (leaf_rows s.rows) key

pub record HalfLaw (log : List Record) (x : Split) (s : PageState) (key : List ℕ) : Type 0 where
  pub half : SplitPages log x s → LeafHalves x s → IsTrue (has_own s key) → HalfOf log x s key

-- ---- purges

pub record PurgeEntered (log : List Record) (x : Purge) (s : PageState) : Type 0 where
  pub entered : Entered log (kinds.Purge x) 0
  pub page : image (log ++ kinds.Purge x ∷ []) x.page ≡ Some (purged s)
  pub last : head (log ++ kinds.Purge x ∷ []) x.page ≡ length log + 1
  pub others : (p : ℕ) → p ≢ x.page → image (log ++ kinds.Purge x ∷ []) p ≡ image log p

pub record PurgeEnters (log : List Record) (x : Purge) (s : PageState) : Type 0 where
  pub entered : AreLawful log → log ≢ [] → image log x.page ≡ Some s → IsLawful log (kinds.Purge x) → PurgeEntered log x s

-- ---- grown roots

pub record GrowEntered (log : List Record) (g : Grow) (s : PageState) : Type 0 where
  pub entered : Entered log (kinds.Grow g) 1
  pub root : image (log ++ kinds.Grow g ∷ []) 1 ≡ Some (grown g.child s)
  pub child : image (log ++ kinds.Grow g ∷ []) g.child ≡ Some s
  pub root_last : head (log ++ kinds.Grow g ∷ []) 1 ≡ length log + 1
  pub child_last : head (log ++ kinds.Grow g ∷ []) g.child ≡ length log + 1
  pub others : (p : ℕ) → p ≢ 1 → p ≢ g.child → image (log ++ kinds.Grow g ∷ []) p ≡ image log p

pub record GrowEnters (log : List Record) (g : Grow) (s : PageState) : Type 0 where
  pub entered : AreLawful log → log ≢ [] → image log 1 ≡ Some s → g.child_state ≡ s → IsLawful log (kinds.Grow g) → GrowEntered log g s

-- ---- adopted children

-- slot i of the parent s leads to the fosterer f, which has the foster child
pub record HasFosterer (log : List Record) (a : Adopt) (s f : PageState) (i : ℕ) : Type 0 where
  pub parent : image log a.parent ≡ Some s
  pub fosterer : image log a.fosterer ≡ Some f
  pub branch : s.rows ≡ Branch (branch_rows s.rows)
  pub foster : f.foster ≡ Some (record { key = a.key; child = a.child })
  pub slot : slot_pointer s i ≡ Some (record { child = a.fosterer; fence = fence_of f })

pub record AdoptEntered (log : List Record) (a : Adopt) (s f : PageState) : Type 0 where
  pub entered : Entered log (kinds.Adopt a) 0
  pub parent : image (log ++ kinds.Adopt a ∷ []) a.parent ≡ Some (with_child a s)
  pub fosterer : image (log ++ kinds.Adopt a ∷ []) a.fosterer ≡ Some (without_foster a f)
  pub parent_last : head (log ++ kinds.Adopt a ∷ []) a.parent ≡ length log + 1
  pub fosterer_last : head (log ++ kinds.Adopt a ∷ []) a.fosterer ≡ length log + 1
  pub others : (p : ℕ) → p ≢ a.parent → p ≢ a.fosterer → image (log ++ kinds.Adopt a ∷ []) p ≡ image log p

pub record AdoptEnters (log : List Record) (a : Adopt) (s f : PageState) (i : ℕ) : Type 0 where
  pub entered : AreLawful log → log ≢ [] → HasFosterer log a s f i → IsLawful log (kinds.Adopt a) → AdoptEntered log a s f

-- ---- writes

-- the log with a record of a transaction, which changes this page alone
pub record LeafEntered (log : List Record) (r : Record) (page : ℕ) (after : PageState) : Type 0 where
  pub lawful : AreLawful (log ++ r ∷ [])
  pub is : image (log ++ r ∷ []) page ≡ Some after
  pub last : head (log ++ r ∷ []) page ≡ length log + 1
  pub others : (p : ℕ) → p ≢ page → image (log ++ r ∷ []) p ≡ image log p
  pub limit : limit_of (log ++ r ∷ []) ≡ limit_of log
  pub pages : pages (log ++ r ∷ []) ≡ pages log

pub record LeafEnters (log : List Record) (s : PageState) : Type 0 where
  pub write : AreLawful log → log ≢ [] → (w : Write) → image log w.page ≡ Some s → IsLawful log (kinds.Write w)
      → LeafEntered log (kinds.Write w) w.page (with_value w.key w.new s)
  pub apply : AreLawful log → log ≢ [] → (a : Apply) → image log a.page ≡ Some s → IsLawful log (kinds.Apply a)
      → LeafEntered log (kinds.Apply a) a.page (with_value a.key (meaning a.operator a.old a.argument) s)
  pub undo : AreLawful log → log ≢ [] → (u : Undo) → image log u.page ≡ Some s → IsLawful log (kinds.Undo u)
      → LeafEntered log (kinds.Undo u) u.page (with_value u.key u.restores s)
