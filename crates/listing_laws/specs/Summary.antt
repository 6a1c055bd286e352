-- A log in short, kept up to date record by record: what the next checkpoint lists, and where the log
-- and its last checkpoint end. Nothing else of the log is needed to go on.
use Rattle.std.specs.Prelude.{ℕ, zero, suc, ◌+◌, max, List, [], ◌∷◌, ◌++◌, map, length, fold, ◌==◌, slice_index_or, if◌then◌else◌}
use Rattle.std.specs.List.{sum_by}
use Rattle.std.specs.Ordering.{nat_cmp, match_ordering}
use Rattle.wal_record.specs.Chains.{tx_of}
use Rattle.wal_record.specs.OpenWrites.{without_last, has_items}
use Rattle.wal_record.specs.Upkeep.{lost_step, unrestored_step, runs_step, backup_number, run_number}
use Rattle.wal_record.specs.Checkpoints.{last_open, checkpoint_of, is_checkpoint, last_checkpoint}
use Rattle.wal_record.specs.declared.analysis.Analysis.{Analysis}
use Rattle.wal_record.specs.declared.analysis.Loser.{Loser}
use Rattle.wal_record.specs.declared.analysis.PageHead.{PageHead}
use Rattle.wal_record.specs.declared.record.Checkpoint.{Checkpoint}
use Rattle.wal_record.specs.declared.record.OpenWrite.{OpenWrite}
use Rattle.wal_record.specs.declared.record.PageLsn.{PageLsn}
use Rattle.wal_record.specs.declared.record.Unfinished.{Unfinished}
use Rattle.wal_record.specs.declared.record.Record.{Record}
use Rattle.wal_record.specs.declared.record.Record.TheVariants as kinds

pub record Summary : Type 0 where
  -- the LSN of the last record, 0 for none
  pub last : ℕ
  -- and that of the last checkpoint
  pub checkpoint : ℕ
  -- what the next checkpoint lists
  pub listed : Checkpoint

-- ---- pages

-- a change of the item at this place, counted from 0, if there is one
abbrev pub at_place : {A : Type 0} → (A → A) → ℕ → List A → List A
at_place f i [] = []
at_place f zero (x ∷ xs) = f x ∷ xs
at_place f (suc i) (x ∷ xs) = x ∷ at_place f i xs

-- a change of the entry of a page; pages count from 1
abbrev pub at_page : (PageHead → PageHead) → ℕ → List PageHead → List PageHead
at_page f zero hs = hs
at_page f (suc i) hs = at_place f i hs

abbrev pub with_head : ℕ → PageHead → PageHead
with_head lsn h = record h { head = lsn }

abbrev pub with_written : ℕ → PageHead → PageHead
with_written lsn h = record h { written = lsn }

abbrev pub with_backup : ℕ → ℕ → PageHead → PageHead
with_backup backup lsn h = record h { backup = backup; backup_lsn = lsn }

-- of a page that this record makes
abbrev pub first_head : ℕ → PageHead
first_head lsn = record { head = lsn; written = 0; backup = 0; backup_lsn = 0 }

-- the pages that a backup has
abbrev pub backed_up : ℕ → List PageLsn → List PageHead → List PageHead
backed_up backup [] hs = hs
backed_up backup (x ∷ xs) hs = at_page (with_backup backup x.lsn) x.page (backed_up backup xs hs)

abbrev pub heads_step : ℕ → List PageHead → Record → List PageHead
heads_step lsn hs (kinds.Format f) = hs ++ first_head lsn ∷ []
heads_step lsn hs (kinds.Write w) = at_page (with_head lsn) w.page hs
heads_step lsn hs (kinds.Apply a) = at_page (with_head lsn) a.page hs
heads_step lsn hs (kinds.Undo u) = at_page (with_head lsn) u.page hs
heads_step lsn hs (kinds.Split s) = at_page (with_head lsn) s.page hs ++ first_head lsn ∷ []
heads_step lsn hs (kinds.Adopt a) = at_page (with_head lsn) a.fosterer (at_page (with_head lsn) a.parent hs)
heads_step lsn hs (kinds.Grow g) = at_page (with_head lsn) 1 hs ++ first_head lsn ∷ []
heads_step lsn hs (kinds.Purge x) = at_page (with_head lsn) x.page hs
heads_step lsn hs (kinds.Written w) = at_page (with_written w.lsn) w.page hs
heads_step lsn hs (kinds.BackupDone b) = backed_up b.backup b.pages hs
heads_step lsn hs (kinds.Lost l) = map (with_written 0) hs
heads_step lsn hs _ = hs

-- ---- transactions

-- the open writes of a transaction in a list of transactions
abbrev pub writes_in : ℕ → List Unfinished → List OpenWrite
writes_in t [] = []
writes_in t (u ∷ us) = if u.tx == t then u.writes else writes_in t us

-- the LSN of the last record of a transaction in such a list, 0 for none
abbrev pub last_in : ℕ → List Unfinished → ℕ
last_in t us = fold (λ n (u : Unfinished). if u.tx == t then u.last else n) 0 us

-- the transaction among those by rising number, in place of what stood there of it
abbrev pub put : Unfinished → List Unfinished → List Unfinished
put x [] = x ∷ []
put x (u ∷ us) = match_ordering (nat_cmp x.tx u.tx) (x ∷ u ∷ us) (x ∷ us) (u ∷ put x us)

-- the others
abbrev pub without : ℕ → List Unfinished → List Unfinished
without t [] = []
without t (u ∷ us) = if u.tx == t then us else u ∷ without t us

-- a transaction that has open writes; one without isn't listed
abbrev pub put_open : ℕ → ℕ → List OpenWrite → List Unfinished → List Unfinished
put_open lsn t ws us = if has_items ws then put (record { tx = t; last = lsn; undo_next = last_open ws; writes = ws }) us else without t us

abbrev pub transactions_step : ℕ → List Unfinished → Record → List Unfinished
transactions_step lsn us (kinds.Write w) = put_open lsn w.tx (writes_in w.tx us ++ record { lsn = lsn; key = w.key } ∷ []) us
transactions_step lsn us (kinds.Apply a) = put_open lsn a.tx (writes_in a.tx us ++ record { lsn = lsn; key = a.key } ∷ []) us
transactions_step lsn us (kinds.Undo u) = put_open lsn u.tx (without_last (writes_in u.tx us)) us
transactions_step lsn us (kinds.Commit c) = without c.tx us
transactions_step lsn us (kinds.End e) = without e.tx us
transactions_step lsn us _ = us

-- ---- the other fields

abbrev pub commits_step : ℕ → Record → ℕ
commits_step n (kinds.Commit c) = n + 1
commits_step n _ = n

abbrev pub limit_step : ℕ → Record → ℕ
limit_step n (kinds.Format f) = f.limit
limit_step n _ = n

abbrev pub checkpoint_step : ℕ → ℕ → Record → ℕ
checkpoint_step lsn n r = if is_checkpoint r then lsn else n

abbrev pub listed_step : ℕ → Checkpoint → Record → Checkpoint
listed_step lsn c r = record {
  next_tx = max c.next_tx (suc (tx_of r));
  commits = commits_step c.commits r;
  limit = limit_step c.limit r;
  pages = heads_step lsn c.pages r;
  transactions = transactions_step lsn c.transactions r;
  lost = lost_step c.lost r;
  unrestored = unrestored_step c.unrestored r;
  runs = runs_step c.runs r;
  next_backup = max c.next_backup (suc (backup_number r));
  next_run = max c.next_run (suc (run_number r));
}

-- ---- the whole

-- one record more, which has this LSN
abbrev pub summary_step : ℕ → Summary → Record → Summary
summary_step lsn s r = record { last = lsn; checkpoint = checkpoint_step lsn s.checkpoint r; listed = listed_step lsn s.listed r }

-- the summary of a log, by the definitions
abbrev pub summary_of : List Record → Summary
summary_of log = record { last = length log; checkpoint = last_checkpoint log; listed = checkpoint_of log }

-- what a checkpoint says, where it is the last record and has this LSN
abbrev pub from_checkpoint : ℕ → Checkpoint → Summary
from_checkpoint lsn c = record { last = lsn; checkpoint = lsn; listed = c }

-- and what further records make of it
abbrev pub go_on : Summary → List Record → Summary
go_on s [] = s
go_on s (r ∷ rs) = go_on (summary_step (s.last + 1) s r) rs

-- ---- what is read off a summary

abbrev pub loser_of : Unfinished → Loser
loser_of u = record { tx = u.tx; last = u.last; undo_next = u.undo_next; keys = map (λ (w : OpenWrite). w.key) u.writes; lsns = map (λ (w : OpenWrite). w.lsn) u.writes }

abbrev pub analysis_in : Checkpoint → Analysis
analysis_in c = record {
  losers = map loser_of c.transactions;
  heads = c.pages;
  lost = c.lost;
  unrestored = c.unrestored;
  runs = c.runs;
  commits = c.commits;
  next_tx = c.next_tx;
  next_backup = c.next_backup;
  next_run = c.next_run;
  limit = c.limit;
}

-- ---- and back from an analysis, which says of each open write the LSN and the key

abbrev pub writes_of : List ℕ → List (List ℕ) → List OpenWrite
writes_of [] keys = []
writes_of (n ∷ ns) [] = []
writes_of (n ∷ ns) (k ∷ ks) = record { lsn = n; key = k } ∷ writes_of ns ks

abbrev pub unfinished_in : Loser → Unfinished
unfinished_in l = record { tx = l.tx; last = l.last; undo_next = l.undo_next; writes = writes_of l.lsns l.keys }

abbrev pub checkpoint_in : Analysis → Checkpoint
checkpoint_in a = record {
  next_tx = a.next_tx;
  commits = a.commits;
  limit = a.limit;
  pages = a.heads;
  transactions = map unfinished_in a.losers;
  lost = a.lost;
  unrestored = a.unrestored;
  runs = a.runs;
  next_backup = a.next_backup;
  next_run = a.next_run;
}

-- ---- pages, transactions and room

abbrev pub no_entry : PageHead
no_entry = record { head = 0; written = 0; backup = 0; backup_lsn = 0 }

-- the entry of a page, where it has one
abbrev pub entry_at : ℕ → List PageHead → PageHead
entry_at zero hs = no_entry
entry_at (suc i) hs = slice_index_or hs i no_entry

-- how many open writes all listed transactions have
abbrev pub pending_in : List Unfinished → ℕ
pending_in us = sum_by (λ (u : Unfinished). length u.writes) us
