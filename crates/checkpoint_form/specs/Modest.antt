-- How much a Checkpoint may list.
use Rattle.std.specs.Prelude.{◌+◌, ◌≤◌, length, IsTrue}
use Rattle.std.specs.List.{list_all}
use Rattle.listing_laws.specs.Summary.{pending_in}
use Rattle.store_model.specs.Along.{AllAlong}
use Rattle.store_model.specs.declared.limits.TheConstants.{HIGHEST}
use Rattle.wal_record.specs.Rules.{KeepsUnfinished, is_lsn_or_none, is_number, is_u32, open_write_fits, page_head_fits, run_fits, segment_fits}
use Rattle.wal_record.specs.declared.record.Checkpoint.{Checkpoint}
use Rattle.wal_record.specs.declared.record.Unfinished.{Unfinished}

-- No more than a lawful log has: as many pages and open writes as there is room for, and one; transactions with an open write
-- each; and of segments and archive runs as many as a store has.
pub record IsModest (c : Checkpoint) : Type 0 where
  pub room : length c.pages + pending_in c.transactions ≤ 16385
  pub few : length c.transactions ≤ pending_in c.transactions
  pub unrestored : length c.unrestored ≤ 1025
  pub runs : length c.runs ≤ 1024

-- the rules of a transaction's fields, but that its number is above that of the one before
pub record KeepsOthers (u : Unfinished) : Type 0 where
  pub tx : u.tx ≤ HIGHEST
  pub last : IsTrue (is_number u.last)
  pub undo_next : IsTrue (is_lsn_or_none u.undo_next)
  pub count : IsTrue (is_u32 (length u.writes))
  pub writes : AllAlong (λ ws w. IsTrue (open_write_fits ws w)) u.writes

-- the rules of a Checkpoint's lists
pub record KeepsLists (c : Checkpoint) : Type 0 where
  pub pages : IsTrue (list_all page_head_fits c.pages)
  pub transactions : AllAlong KeepsUnfinished c.transactions
  pub unrestored : AllAlong (λ before segment. IsTrue (segment_fits before segment)) c.unrestored
  pub runs : AllAlong (λ before x. IsTrue (run_fits before x)) c.runs
