-- A table of pages in memory.
use Rattle.std.specs.Prelude.{◌≡◌, ℕ, ◌-◌, ◌≤◌, List, length, Option, Some, None, slice_set, slice_index_or}
use Rattle.page_ops.specs.Hands.{Hand}
use Rattle.page_ops.specs.declared.taken.Taken.{Taken}
use Rattle.page_ops.specs.declared.taken.Taken.TheVariants.{Page, Busy, Away}

-- for each page from 1 on, the page in its frame; none where it isn't there
abbrev pub Table : Type 0
Table = List (Option Hand)

-- the table has a place for the page
abbrev pub IsIn : Table → ℕ → Type 0
IsIn t page = (1 ≤ page) × (page ≤ length t)

abbrev pub framed : Table → ℕ → Option Hand
framed t page = slice_index_or t (page - 1) None

-- the page's frame has this page, or none
abbrev pub with_frame : Table → ℕ → Option Hand → Table
with_frame t page h = slice_set t (page - 1) h

-- a page that is taken was in its frame, which is then empty; else nothing changes
abbrev pub Takes : Table → ℕ → Table → Taken Hand → Type 0
Takes old page new (Page h) = (framed old page ≡ Some h) × (new ≡ with_frame old page None)
Takes old page new Busy = new ≡ old
Takes old page new Away = new ≡ old
