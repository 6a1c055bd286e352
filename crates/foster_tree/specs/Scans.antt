-- What a scan has collected.
use Rattle.std.specs.Prelude.{◌≡◌, ℕ, List, ◌++◌, Option, if◌then◌else◌, IsTrue}
use Rattle.std.specs.List.{list_any}
use Rattle.store_model.specs.Range.{Interval, is_below}
use Rattle.store_model.specs.Contents.{pairs_in}
use Rattle.store_model.specs.declared.pair.Pair.{Pair}
use Rattle.wal_record.specs.State.{own_end}
use Rattle.wal_record.specs.Books.{session_entries}
use Rattle.wal_record.specs.Contents.{current}
use Rattle.wal_record.specs.History.{life_log, is_owner}
use Rattle.wal_record.specs.Locks.{covers, locks}
use Rattle.wal_record.specs.declared.page.PageState.{PageState}
use Rattle.wal_record.specs.declared.record.Record.{Record}
use Rattle.wal_record.specs.declared.entry.Entry.{Entry}

-- a transaction of the session had locked the range at the moment seen, and nothing of the session was entered since
pub record KeepsLocked (opening : List Record) (seen now : List Entry) (range : Interval) (session tx : ℕ) : Type 0 where
  pub owner : IsTrue (is_owner seen session tx)
  pub locked : IsTrue (list_any (covers range) (locks opening seen tx))
  pub quiet : session_entries now session ≡ session_entries seen session

-- behind what was there, the pairs of this part of the range are there as the current contents have them now, for
-- whoever has kept the range locked
abbrev pub Collects : (List Record → Type 0) → List Entry → List Entry → Interval → Interval → List Pair → List Pair → Type 0
Collects opens seen now range part before after = (opening : List Record) (session tx : ℕ) → opens opening → KeepsLocked opening seen now range session tx → after ≡ before ++ pairs_in part (current (life_log opening now))

-- where a scan goes on behind a page: at the end of its own part, or at the range's if that comes first
abbrev pub part_end : PageState → Option (List ℕ) → Option (List ℕ)
part_end s high = if is_below (own_end s) high then own_end s else high
