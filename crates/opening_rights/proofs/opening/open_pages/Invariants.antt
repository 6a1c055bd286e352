use Rattle.std.proofs.Common.{◌≡◌, ◌≤◌, ◌-◌, ℕ, List}
use Rattle.std.specs.Prelude.{IfSome}
use Rattle.page_index.specs.Index.{home_of, limit_of}
use Rattle.page_ops.specs.Claims.{IsInRange}
use Rattle.wal_record.specs.Sound.{AreLawful}
use Rattle.wal_record.specs.declared.record.Record.{Record}
use Rattle.log_index.specs.Listing.{IsListingOf}
use Rattle.opening_rights.specs.Opened.{ArePagesOf, NoneAbove}
use Rattle.opening_rights.proofs.opening.open_pages.Given as goal

abbrev pub invariant-loop-page : goal.invariant-loop-page
invariant-loop-page g l =
    (l.page ≤ l.fn.pages) × (limit_of l.index ≡ l.fn.limit) × NoneAbove l.page l.book
    × ((log : List Record) → IsListingOf log l.fn.listing → AreLawful log → ArePagesOf log l.page l.index l.book)
    × ((page : ℕ) → IfSome (home_of l.index page) IsInRange)

abbrev pub decreases-loop-page : goal.decreases-loop-page
decreases-loop-page g l = l.fn.pages - l.page
