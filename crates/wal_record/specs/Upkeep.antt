-- What a log tells of images written, backups, losses of the data device with the restore after them
-- (instant restore: Graefe, Guy and Sauer 2015), and archive runs.
use Rattle.std.specs.Prelude.{ℕ, ◌+◌, ◌-◌, ◌/◌, max, List, [], ◌∷◌, ◌++◌, filter, find, Bool, false, not, nat_le, nat_lt, ◌==◌, ◌&&◌, if◌then◌else◌}
use Rattle.std.specs.List.{range_with_len}
use Rattle.std.specs.Option.{option_map_or}
use Rattle.store_model.specs.Along.{along}
use Rattle.store_model.specs.Lists.{last_of}
use Rattle.store_model.specs.declared.limits.TheConstants.{SEGMENT_PAGES}
use Rattle.wal_record.specs.declared.analysis.Run.{Run}
use Rattle.wal_record.specs.declared.record.PageLsn.{PageLsn}
use Rattle.wal_record.specs.declared.record.RunDone.{RunDone}
use Rattle.wal_record.specs.declared.record.Record.{Record}
use Rattle.wal_record.specs.declared.record.Record.TheVariants as kinds

-- ---- images written

abbrev pub written_step : ℕ → ℕ → Record → ℕ
written_step p n (kinds.Written w) = if w.page == p then w.lsn else n
written_step p n (kinds.Lost l) = 0
written_step p n _ = n

-- the LSN of the page's image that was written last since the last loss, 0 for none
unfoldable pub written_lsn : List Record → ℕ → ℕ
written_lsn log p = along (λ before n r. written_step p n r) 0 log

-- ---- backups

-- a segment is so many neighbouring pages, counted from 0
abbrev pub segment_of : ℕ → ℕ
segment_of page = (page - 1) / SEGMENT_PAGES

abbrev pub backup_number : Record → ℕ
backup_number (kinds.BackupDone b) = b.backup
backup_number _ = 0

-- the greatest number of a backup, 0 for none
unfoldable pub last_backup : List Record → ℕ
last_backup log = along (λ before n r. max n (backup_number r)) 0 log

-- the record tells of this backup of the segment
abbrev pub backs_up : ℕ → ℕ → Record → Bool
backs_up backup segment (kinds.BackupDone b) = b.backup == backup && b.segment == segment
backs_up backup segment _ = false

-- a backup, and the LSN of the page's image in it; 0 for none
pub record PageBackup : Type 0 where
  pub backup : ℕ
  pub lsn : ℕ

abbrev pub no_backup : PageBackup
no_backup = record { backup = 0; lsn = 0 }

abbrev pub backup_step : ℕ → PageBackup → Record → PageBackup
backup_step p found (kinds.BackupDone b) = option_map_or (λ (x : PageLsn). record { backup = b.backup; lsn = x.lsn }) (find (λ (x : PageLsn). x.page == p) b.pages) found
backup_step p found _ = found

-- the last backup that has the page
unfoldable pub page_backup : List Record → ℕ → PageBackup
page_backup log p = along (λ before found r. backup_step p found r) no_backup log

-- ---- losses of the data device

abbrev pub lost_step : ℕ → Record → ℕ
lost_step n (kinds.Lost l) = l.pages
lost_step n _ = n

-- the number of pages at the last loss, 0 for none
unfoldable pub lost_pages : List Record → ℕ
lost_pages log = along (λ before n r. lost_step n r) 0 log

-- the segments that so many pages fill, rising
abbrev pub segments : ℕ → List ℕ
segments n = range_with_len 0 ((n + (SEGMENT_PAGES - 1)) / SEGMENT_PAGES)

abbrev pub unrestored_step : List ℕ → Record → List ℕ
unrestored_step ss (kinds.Lost l) = segments l.pages
unrestored_step ss (kinds.Restored r) = filter (λ s. not (s == r.segment)) ss
unrestored_step ss _ = ss

-- the segments that had a page at the last loss and weren't restored since, rising
unfoldable pub unrestored : List Record → List ℕ
unrestored log = along (λ before ss r. unrestored_step ss r) [] log

-- ---- archive runs

abbrev pub run_number : Record → ℕ
run_number (kinds.RunDone d) = d.run
run_number _ = 0

-- the greatest number of a run, 0 for none
unfoldable pub last_run : List Record → ℕ
last_run log = along (λ before n r. max n (run_number r)) 0 log

-- the run lies in the range of a new one
abbrev pub in_range : RunDone → Run → Bool
in_range d x = nat_le d.first x.first && nat_le x.last d.last

-- the runs below a new one, that run, and the runs above it: those in its range are replaced
abbrev pub with_run : RunDone → List Run → List Run
with_run d runs = filter (λ (x : Run). nat_lt x.last d.first) runs ++ record { run = d.run; first = d.first; last = d.last } ∷ filter (λ (x : Run). nat_lt d.last x.first) runs

abbrev pub runs_step : List Run → Record → List Run
runs_step runs (kinds.RunDone d) = with_run d runs
runs_step runs _ = runs

-- the standing runs, by rising LSN
unfoldable pub standing_runs : List Record → List Run
standing_runs log = along (λ before runs r. runs_step runs r) [] log

-- the last LSN that a standing run covers, 0 for none
abbrev pub archived : List Run → ℕ
archived runs = option_map_or (λ (x : Run). x.last) (last_of runs) 0
