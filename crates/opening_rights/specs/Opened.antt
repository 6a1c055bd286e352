-- The pages of a log as a life begins.
use Rattle.std.specs.Prelude.{◌≡◌, ◌≢◌, ℕ, ◌<◌, ◌≤◌, max, List, Some, None}
use Rattle.books.specs.Booking.{entry_of}
use Rattle.books.specs.declared.entry.BookEntry.{BookEntry}
use Rattle.page_index.specs.Index.{Index, home_of, limit_of, written_of}
use Rattle.opening_rights.specs.declared.opening.TheConstants.{LEAST_FRAMES}
use Rattle.wal_record.specs.Chains.{head, pages}
use Rattle.wal_record.specs.Checkpoints as checkpoints
use Rattle.wal_record.specs.Upkeep.{written_lsn}
use Rattle.wal_record.specs.declared.record.Record.{Record}

-- an index has so many places: one for each page that the store may have or has, and at least as many as a pool has frames
abbrev pub places_of : List Record → ℕ
places_of log = max (max (checkpoints.limit_of log) (pages log)) LEAST_FRAMES

-- the right to the page is at home, at this head, and its image is written as this LSN; all else is as before
pub record Homes (old new : Index) (page lsn image : ℕ) : Type 0 where
  pub limit : limit_of new ≡ limit_of old
  pub home : home_of new page ≡ Some (record { page = page; lsn = lsn })
  pub written : written_of new page ≡ image
  pub others : (q : ℕ) → q ≢ page → home_of new q ≡ home_of old q
  pub others_written : (q : ℕ) → q ≢ page → written_of new q ≡ written_of old q

-- The right to each of the first pages is at home, at the page's head in the log, and no other right. Each of these pages is
-- written as the log says, and no other one.
pub record AreFirst (log : List Record) (count : ℕ) (index : Index) : Type 0 where
  pub home : (p : ℕ) → 1 ≤ p → p ≤ count → home_of index p ≡ Some (record { page = p; lsn = head log p })
  pub away : (p : ℕ) → count < p → home_of index p ≡ None
  pub written : (p : ℕ) → 1 ≤ p → p ≤ count → written_of index p ≡ written_lsn log p
  pub unwritten : (p : ℕ) → count < p → written_of index p ≡ 0

-- that is so of all pages of the log
abbrev pub AreAtHome : List Record → Index → Type 0
AreAtHome log index = AreFirst log (pages log) index

-- the book has no entry above this number
abbrev pub NoneAbove : ℕ → List BookEntry → Type 0
NoneAbove count book = (p : ℕ) → count < p → entry_of p book ≡ None

-- each entry of the book has the head of its page
abbrev pub HaveHeads : List Record → List BookEntry → Type 0
HaveHeads log book = (p : ℕ) (e : BookEntry) → entry_of p book ≡ Some e → e.first ≡ head log p

-- both are so
pub record ArePagesOf (log : List Record) (count : ℕ) (index : Index) (book : List BookEntry) : Type 0 where
  pub rights : AreFirst log count index
  pub heads : HaveHeads log book
