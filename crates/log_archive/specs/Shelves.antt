-- The items of each page as they are gathered, spelled one behind the other.
use Rattle.std.specs.Prelude.{◌≡◌, ℕ, suc, ◌+◌, ◌≤◌, List, [], ◌∷◌, ◌++◌, length, get_or, Option, Some, None, Bool, true, false, ◌<◌, ◌==◌, if◌then◌else◌}
use Rattle.std.specs.List.{All}
use Rattle.store_model.specs.declared.limits.TheConstants.{MOST_PAGES}
use Rattle.wal_record.specs.Rules.{HasSpelling}
use Rattle.wal_record.specs.declared.record.Record.{Record}
use Rattle.log_archive.specs.Items.{numbered, on_page, part}
use Rattle.log_archive.specs.Run.{items_bytes, items_size}
use Rattle.log_archive.specs.declared.item.Numbered.{Numbered}

-- how many items a page has, and their bytes
pub record Shelved : Type 0 where
  pub count : ℕ
  pub bytes : List ℕ

abbrev pub nothing : Shelved
nothing = record { count = 0; bytes = [] }

abbrev pub shelf_of : List Numbered → Shelved
shelf_of items = record { count = length items; bytes = items_bytes items }

-- the shelf at place p is that of page p + 1
abbrev pub shelf_at : List Shelved → ℕ → Shelved
shelf_at shelves p = get_or shelves p nothing

-- the shelves hold the items that f has of each page
pub record Holds (shelves : List Shelved) (f : ℕ → List Numbered) : Type 0 where
  pub each : (p : ℕ) → shelf_at shelves p ≡ shelf_of (f (suc p))
  pub few : length shelves ≤ MOST_PAGES

-- so many items more, with these bytes, on one shelf
abbrev pub with_more : ℕ → ℕ → List ℕ → ℕ → Shelved → Shelved
with_more page count bytes p s = if suc p == page then record { count = s.count + count; bytes = s.bytes ++ bytes } else s

-- the page has these items more
abbrev pub and_items : (ℕ → List Numbered) → ℕ → List Numbered → ℕ → List Numbered
and_items f page items p = if p == page then f p ++ items else f p

abbrev pub is_that : ℕ → Option ℕ → Bool
is_that page None = false
is_that page (Some n) = page == n

-- the page, where there is one, has this item more
abbrev pub and_item : (ℕ → List Numbered) → Option ℕ → Numbered → ℕ → List Numbered
and_item f page x p = if is_that p page then f p ++ x ∷ [] else f p

-- what an item of so many bytes has on the shelf of a page, where there is one
abbrev pub on_shelf : Option ℕ → ℕ → ℕ
on_shelf None size = 0
on_shelf (Some page) size = size

-- ---- a run that is gathered

-- how many bytes its items have, and the shelves of its pages
pub record Gathering : Type 0 where
  pub size : ℕ
  pub shelves : List Shelved

-- these items were gathered
pub record HasItems (g : Gathering) (items : List Numbered) : Type 0 where
  pub size : g.size ≡ items_size items
  pub holds : Holds g.shelves (λ page. on_page page items)

-- The item was added, where the items then have at most so many bytes. Else nothing was.
abbrev pub AddsWithin : ℕ → List Numbered → Numbered → Gathering → Gathering → Bool → Type 0
AddsWithin most items x old new true = HasItems new (items ++ x ∷ []) × (items_size (items ++ x ∷ []) ≤ most)
AddsWithin most items x old new false = (new ≡ old) × (most < items_size (items ++ x ∷ []))

-- Records were read, the first of which has this LSN, up to the LSN before `next`: those of each log by which they were
-- answered. Their items were gathered.
pub record Gathered (answers : List Record → Type 0) (first next : ℕ) (g : Gathering) : Type 0 where
  pub records : List Record
  pub count : first + length records ≡ next
  pub spelled : All HasSpelling records
  pub told : (log : List Record) → answers log → records ≡ part first next log
  pub items : HasItems g (numbered first records)
