-- Which transactions may go on behind a log, and what a listing has to know of them.
use Rattle.std.specs.Prelude.{◌≡◌, ℕ, List, Bool, true, false, nat_lt, ◌||◌}
use Rattle.std.specs.List.{list_any}
use Rattle.wal_record.specs.Chains.{finishes, greatest, last}
use Rattle.wal_record.specs.OpenWrites.{is_loser}
use Rattle.wal_record.specs.declared.record.Record.{Record}
use Rattle.log_index.specs.Listing.{noted}
use Rattle.log_index.specs.declared.listing.Listing.{Listing}

-- A life that begins with this log may add records to those transactions alone that begin in it, whose numbers are above all
-- that the log names, and to the log's losers. A transaction that undid all its writes and lost its End to a stop is neither,
-- and no Checkpoint lists it.
abbrev pub may_go_on : List Record → ℕ → Bool
may_go_on log t = nat_lt (greatest log) t || is_loser log t

-- of each of these transactions that isn't over, what was noted last is its last record
abbrev pub KnowsLast : (ℕ → Bool) → List Record → Listing → Type 0
KnowsLast goes log s = (t : ℕ) → goes t ≡ true → list_any (finishes t) log ≡ false → noted s t ≡ last log t
