-- What the right to a page pins: no record since names it, so its image stays.
use Rattle.std.specs.Prelude.{◌≡◌, ◌≢◌, ℕ, ◌<◌, ◌≤◌, List, ◌++◌, length, None, Bool, true, false, IsTrue}
use Rattle.std.specs.List.{list_any}
use Rattle.wal_record.specs.Chains.{names, head, pages, names_at}
use Rattle.wal_record.specs.Images.{image}
use Rattle.wal_record.specs.Upkeep.{written_lsn}
use Rattle.wal_record.specs.Sound.{AreLawful}
use Rattle.wal_record.specs.declared.record.Record.{Record}
use Rattle.wal_record.specs.declared.record.Record.TheVariants as kinds

abbrev pub is_lost : Record → Bool
is_lost (kinds.Lost l) = true
is_lost _ = false

-- between a log and what it has become
pub record PageLaw (log more : List Record) (p : ℕ) : Type 0 where
  -- no record since names the page, where its head is the same; and its image is the same
  pub unnamed : head (log ++ more) p ≡ head log p → list_any (names p) more ≡ false
  pub image : head (log ++ more) p ≡ head log p → image (log ++ more) p ≡ image log p
  pub count : pages log ≤ pages (log ++ more)
  -- a record that named the page still does
  pub named : (lsn : ℕ) → IsTrue (names_at log lsn p) → IsTrue (names_at (log ++ more) lsn p)
  -- where an image of it was written, one was, unless the data device was lost
  pub written : AreLawful (log ++ more) → list_any is_lost more ≡ false → 0 < written_lsn log p → 0 < written_lsn (log ++ more) p

-- of one log
pub record HeadLaw (log : List Record) (p : ℕ) : Type 0 where
  -- the head is where a record names the page, so an image of it may be written
  pub stands : head log p ≢ 0 → IsTrue (names_at log (head log p) p)
  pub within : head log p ≤ length log
  -- no page is written ahead of its head
  pub written : AreLawful log → written_lsn log p ≤ head log p
  -- a page that wasn't made has no image
  pub beyond : AreLawful log → pages log < p → image log p ≡ None
