-- The pages that records name.
use Rattle.std.specs.Prelude.{◌≡◌, ℕ, List, Option, Some, None, Bool, false, ◌||◌, ◌==◌, map, length, take, slice_get, zero, suc}
use Rattle.wal_record.specs.declared.record.Record.{Record}
use Rattle.wal_record.specs.declared.record.Record.TheVariants as kinds
use Rattle.page_judge.specs.declared.names.NamedPages.{NamedPages}
use Rattle.page_judge.specs.declared.names.PageNames.{PageNames}

abbrev pub first_page : Record → Option ℕ
first_page (kinds.Format f) = Some 1
first_page (kinds.Write w) = Some w.page
first_page (kinds.Apply a) = Some a.page
first_page (kinds.Undo u) = Some u.page
first_page (kinds.Split s) = Some s.page
first_page (kinds.Adopt a) = Some a.parent
first_page (kinds.Grow g) = Some 1
first_page (kinds.Purge g) = Some g.page
first_page _ = None

abbrev pub second_page : Record → Option ℕ
second_page (kinds.Split s) = Some s.child
second_page (kinds.Adopt a) = Some a.fosterer
second_page (kinds.Grow g) = Some g.child
second_page _ = None

abbrev pub is_page : ℕ → Option ℕ → Bool
is_page p None = false
is_page p (Some q) = p == q

-- what is kept of a record: the pages that it names
abbrev pub named_by : Record → NamedPages
named_by r = record { first = first_page r; second = second_page r }

abbrev pub has_page : ℕ → NamedPages → Bool
has_page p x = is_page p x.first || is_page p x.second

-- what is kept of each record, by its LSN; more may be kept behind them
unfoldable pub AreNamesOf : List Record → PageNames → Type 0
AreNamesOf log x = take (length log) x.named.items ≡ map named_by log

-- what is kept of the record with this LSN, if there is one
abbrev pub named_at : List NamedPages → ℕ → Option NamedPages
named_at xs zero = None
named_at xs (suc n) = slice_get xs n
