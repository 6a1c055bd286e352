-- Sound logs: each record is lawful after those before it, and the store's room is kept.
use Rattle.std.specs.Prelude.{◌≡◌, ◌≢◌, ℕ, ◌+◌, ◌<◌, ◌≤◌, suc, List, [], ◌∷◌, ◌++◌, length, filter, Option, Some, None, is_some, Bool, true, false, not, ◌||◌, ◌&&◌, ◌==◌, if◌then◌else◌, IsTrue}
use Rattle.std.specs.List.{list_any, list_all}
use Rattle.std.specs.FinMap as finite
use Rattle.store_model.specs.Along.{AllAlong}
use Rattle.store_model.specs.Operator.{meaning}
use Rattle.wal_record.specs.State.{branch_rows, child_at}
use Rattle.wal_record.specs.Rules.{HasSpelling}
use Rattle.wal_record.specs.Chains.{names, PageLink, page_links, head, pages, Link, link_of, last, finishes, names_at}
use Rattle.wal_record.specs.OpenWrites.{open_writes, pending, IsAlone, has_items}
use Rattle.wal_record.specs.Contents.{current}
use Rattle.wal_record.specs.Images.{image, OnPage, IsApplicable}
use Rattle.wal_record.specs.Upkeep.{segment_of, last_backup, backs_up, unrestored, in_range, standing_runs, archived, last_run}
use Rattle.wal_record.specs.Checkpoints.{limit_of, checkpoint_of}
use Rattle.wal_record.specs.declared.analysis.Run.{Run}
use Rattle.wal_record.specs.declared.page.PageState.{PageState}
use Rattle.wal_record.specs.declared.record.Undo.{Undo}
use Rattle.wal_record.specs.declared.record.PageLsn.{PageLsn}
use Rattle.wal_record.specs.declared.record.BackupDone.{BackupDone}
use Rattle.wal_record.specs.declared.record.RunDone.{RunDone}
use Rattle.wal_record.specs.declared.record.Record.{Record}
use Rattle.wal_record.specs.declared.record.Record.TheVariants as kinds

abbrev pub is_format : Record → Bool
is_format (kinds.Format f) = true
is_format _ = false

-- ---- chains

-- `prev` is the transaction's last record, and the transaction has no commit and no end
abbrev pub LinkRule : List Record → Option Link → Type 0
LinkRule before None = Unit {0}
LinkRule before (Some l) = (l.prev ≡ last before l.tx) × (list_any (finishes l.tx) before ≡ false)

-- each page-previous field is the page's head
abbrev pub PageRule : List Record → List PageLink → Type 0
PageRule before [] = Unit {0}
PageRule before (l ∷ ls) = (l.prev ≡ head before l.page) × PageRule before ls

-- ---- pages

-- the parent's row that covered the adopted key leads to the fosterer
abbrev pub LeadsTo : List ℕ → ℕ → PageState → Type 0
LeadsTo key fosterer s = child_at key (branch_rows s.rows) ≡ Some fosterer

-- a new page is the next one; a child is adopted from the page that the parent leads to
abbrev pub PlaceRule : List Record → Record → Type 0
PlaceRule before (kinds.Split s) = s.child ≡ suc (pages before)
PlaceRule before (kinds.Grow g) = g.child ≡ suc (pages before)
PlaceRule before (kinds.Adopt a) = OnPage (LeadsTo a.key a.fosterer) (image before a.parent)
PlaceRule before _ = Unit {0}

-- ---- values

-- the undo takes back this open write
abbrev pub TakesBack : Undo → Record → Type 0
TakesBack u (kinds.Write w) = (u.key ≡ w.key) × (u.restores ≡ w.old) × (u.undo_next ≡ w.prev)
TakesBack u (kinds.Apply a) = (u.key ≡ a.key) × (u.restores ≡ a.old) × (u.undo_next ≡ a.prev)
TakesBack u _ = ⊥

-- the undo takes back the last of these open writes
pub record UndoRule (ws : List Record) (u : Undo) : Type 0 where
  pub front : List Record
  pub back : Record
  pub split : ws ≡ front ++ back ∷ []
  pub takes : TakesBack u back

-- a write names the current value of its key, of which no other transaction has an open write; a
-- transaction that ends has no open write
abbrev pub ValueRule : List Record → Record → Type 0
ValueRule before (kinds.Write w) = IsAlone before w.key w.tx × (w.old ≡ finite.get (current before) w.key) × IsTrue (is_some w.old || is_some w.new)
ValueRule before (kinds.Apply a) = IsAlone before a.key a.tx × (a.old ≡ finite.get (current before) a.key) × IsTrue (is_some (meaning a.operator a.old a.argument))
ValueRule before (kinds.Undo u) = UndoRule (open_writes before u.tx) u
ValueRule before (kinds.End e) = open_writes before e.tx ≡ []
ValueRule before _ = Unit {0}

-- ---- room

-- the room in use: pages and pending writes
abbrev pub used : List Record → ℕ
used log = pages log + pending log

-- the split of a leaf may take one place more than there is
abbrev pub spare : Record → ℕ
spare (kinds.Split s) = if s.child_state.level == 0 then 1 else 0
spare _ = 0

abbrev pub is_undo : Record → Bool
is_undo (kinds.Undo u) = true
is_undo _ = false

pub record RoomRule (before : List Record) (r : Record) : Type 0 where
  pub most : used (before ++ r ∷ []) ≤ limit_of (before ++ r ∷ []) + spare r
  -- where a split took more, an undo gives it back
  pub next : limit_of before < used before → IsTrue (is_undo r)

-- ---- upkeep

-- the image of a page that is written or backed up stands at a record that names the page
abbrev pub IsImage : List Record → ℕ → ℕ → Type 0
IsImage before p lsn = IsTrue (names_at before lsn p)

abbrev pub are_images : List Record → List PageLsn → Bool
are_images before pages = list_all (λ (x : PageLsn). names_at before x.lsn x.page) pages

pub record BackupRule (before : List Record) (b : BackupDone) : Type 0 where
  pub images : IsTrue (are_images before b.pages)
  pub inside : IsTrue (list_all (λ (x : PageLsn). segment_of x.page == b.segment) b.pages)
  -- this backup has the segment once
  pub fresh : list_any (backs_up b.backup b.segment) before ≡ false
  -- it goes on with the last backup, or begins the next one
  pub number : IsTrue ((b.backup == last_backup before) || (b.backup == suc (last_backup before)))

-- a new run begins behind the last one
abbrev pub is_next_run : List Run → RunDone → Bool
is_next_run runs d = d.first == suc (archived runs)

-- a merged run covers exactly these neighbouring runs, two or more
abbrev pub is_merge_of : List Run → RunDone → Bool
is_merge_of (x ∷ y ∷ runs) d = d.first == x.first && d.last == archived (x ∷ y ∷ runs)
is_merge_of _ d = false

pub record RunRule (before : List Record) (d : RunDone) : Type 0 where
  pub covers : d.first ≤ d.last
  pub range : IsTrue (is_next_run (standing_runs before) d || is_merge_of (filter (in_range d) (standing_runs before)) d)
  -- it ends below its own LSN
  pub ends : d.last ≤ length before
  pub number : d.run ≡ suc (last_run before)
  pub most : length (standing_runs (before ++ kinds.RunDone d ∷ [])) ≤ 1024

abbrev pub UpkeepRule : List Record → Record → Type 0
UpkeepRule before (kinds.Written w) = IsImage before w.page w.lsn
UpkeepRule before (kinds.BackupDone b) = BackupRule before b
UpkeepRule before (kinds.Lost l) = l.pages ≡ pages before
UpkeepRule before (kinds.Restored r) = IsTrue (list_any (λ s. s == r.segment) (unrestored before))
UpkeepRule before (kinds.RunDone d) = RunRule before d
UpkeepRule before (kinds.Checkpoint c) = c ≡ checkpoint_of before
UpkeepRule before _ = Unit {0}

-- ---- the whole

-- the record is lawful after these
pub record IsLawful (before : List Record) (r : Record) : Type 0 where
  -- Format is the first record, and no other one
  pub first : is_format r ≡ not (has_items before)
  pub fields : HasSpelling r
  pub chain : LinkRule before (link_of r)
  pub heads : PageRule before (page_links r)
  -- it is applicable to the pages that it names
  pub applicable : (p : ℕ) → IsTrue (names p r) → IsApplicable r p (image before p)
  pub place : PlaceRule before r
  pub value : ValueRule before r
  pub room : RoomRule before r
  pub upkeep : UpkeepRule before r

-- each record is lawful after those before it
abbrev pub AreLawful : List Record → Type 0
AreLawful log = AllAlong IsLawful log

abbrev pub HasRoom : List Record → Type 0
HasRoom log = log ≢ [] → used log ≤ limit_of log

pub record IsSound (log : List Record) : Type 0 where
  pub lawful : AreLawful log
  pub room : HasRoom log
