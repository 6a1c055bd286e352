-- What came of taking a page.
use Rattle.std.specs.Prelude.{ℕ}
use Rattle.page_ops.specs.declared.taken.Taken.{Taken}
use Rattle.page_ops.specs.declared.taken.Taken.TheVariants.{Page, Busy, Away}

module _ {T : Type 0} where
  -- if a page was taken, this holds of it
  abbrev pub IfPage : Taken T → (T → Type 0) → Type 0
  IfPage (Page x) fact = fact x
  IfPage Busy fact = Unit {0}
  IfPage Away fact = Unit {0}

  -- how many pages were taken
  abbrev pub taken_of : Taken T → ℕ
  taken_of (Page x) = 1
  taken_of Busy = 0
  taken_of Away = 0
