-- What a checkpoint lists of the log before it, the last checkpoint, what of a log is needed, and what an analysis finds.
use Rattle.std.specs.Prelude.{ℕ, suc, min, List, [], ◌∷◌, map, fold, Bool, true, false, ◌==◌, if◌then◌else◌}
use Rattle.std.specs.List.{range_with_len}
use Rattle.std.specs.Option.{option_map_or}
use Rattle.store_model.specs.Lists.{last_of}
use Rattle.wal_record.specs.Chains.{head, pages, last, greatest}
use Rattle.wal_record.specs.OpenWrites.{open_list, losers}
use Rattle.wal_record.specs.Upkeep.{written_lsn, page_backup, last_backup, lost_pages, unrestored, archived, standing_runs, last_run}
use Rattle.wal_record.specs.declared.analysis.Analysis.{Analysis}
use Rattle.wal_record.specs.declared.analysis.Loser.{Loser}
use Rattle.wal_record.specs.declared.analysis.PageHead.{PageHead}
use Rattle.wal_record.specs.declared.record.Checkpoint.{Checkpoint}
use Rattle.wal_record.specs.declared.record.OpenWrite.{OpenWrite}
use Rattle.wal_record.specs.declared.record.Unfinished.{Unfinished}
use Rattle.wal_record.specs.declared.record.Record.{Record}
use Rattle.wal_record.specs.declared.record.Record.TheVariants as kinds

-- the limit of the store, which the log's Format names
abbrev pub limit_of : List Record → ℕ
limit_of (kinds.Format f ∷ rs) = f.limit
limit_of _ = 0

-- how many commits the log has
abbrev pub commits : List Record → ℕ
commits [] = 0
commits (kinds.Commit c ∷ rs) = suc (commits rs)
commits (_ ∷ rs) = commits rs

abbrev pub is_checkpoint : Record → Bool
is_checkpoint (kinds.Checkpoint c) = true
is_checkpoint _ = false

-- the LSN of the last checkpoint of these records, the first of which has this LSN; without one, `before`
abbrev pub checkpoint_after : ℕ → ℕ → List Record → ℕ
checkpoint_after before lsn [] = before
checkpoint_after before lsn (r ∷ rs) = checkpoint_after (if is_checkpoint r then lsn else before) (suc lsn) rs

-- the LSN of the last checkpoint, 0 for none
abbrev pub last_checkpoint : List Record → ℕ
last_checkpoint log = checkpoint_after 0 1 log

-- the LSN of the oldest of these open writes, or this one
abbrev pub oldest : List OpenWrite → ℕ → ℕ
oldest [] other = other
oldest (w ∷ ws) other = min w.lsn other

-- The recycle point: what stands before it is needed by no opening, no undo and no archive run. Without a checkpoint
-- all is needed.
abbrev pub recycle_point : List Record → ℕ
recycle_point log =
    let needed = fold (λ n t. oldest (open_list log t) n) (suc (archived (standing_runs log))) (losers log) in
    if last_checkpoint log == 0 then 1 else min (last_checkpoint log) needed

-- the entry of the page recovery index
abbrev pub page_head : List Record → ℕ → PageHead
page_head log p = record { head = head log p; written = written_lsn log p; backup = (page_backup log p).backup; backup_lsn = (page_backup log p).lsn }

-- of the pages 1, 2 and so on
abbrev pub page_heads : List Record → List PageHead
page_heads log = map (page_head log) (range_with_len 1 (pages log))

-- the LSN of the last of these open writes, 0 for none
abbrev pub last_open : List OpenWrite → ℕ
last_open ws = option_map_or (λ (w : OpenWrite). w.lsn) (last_of ws) 0

abbrev pub unfinished : List Record → ℕ → Unfinished
unfinished log t = record { tx = t; last = last log t; undo_next = last_open (open_list log t); writes = open_list log t }

-- the checkpoint that may stand after these records
unfoldable pub checkpoint_of : List Record → Checkpoint
checkpoint_of log = record {
  next_tx = suc (greatest log);
  commits = commits log;
  limit = limit_of log;
  pages = page_heads log;
  transactions = map (unfinished log) (losers log);
  lost = lost_pages log;
  unrestored = unrestored log;
  runs = standing_runs log;
  next_backup = suc (last_backup log);
  next_run = suc (last_run log);
}

abbrev pub loser : List Record → ℕ → Loser
loser log t = record {
  tx = t;
  last = last log t;
  undo_next = last_open (open_list log t);
  keys = map (λ (w : OpenWrite). w.key) (open_list log t);
  lsns = map (λ (w : OpenWrite). w.lsn) (open_list log t);
}

-- the analysis of a log
unfoldable pub analysis_of : List Record → Analysis
analysis_of log = record {
  losers = map (loser log) (losers log);
  heads = page_heads log;
  lost = lost_pages log;
  unrestored = unrestored log;
  runs = standing_runs log;
  commits = commits log;
  next_tx = suc (greatest log);
  next_backup = suc (last_backup log);
  next_run = suc (last_run log);
  limit = limit_of log;
}
