-- Worked examples of chains, open writes and contents.
use Rattle.std.proofs.Common.{◌≡◌, ℕ, [], ◌∷◌, ◌++◌, Some, refl, ◌∙◌}
use Rattle.std.specs.FinMap.{get, get-insert, empty, insert}
use Rattle.std.specs.Cmp.Lexicographic.{nat_list_cmp_total}
use Rattle.store_model.specs.Along.{along}
use Rattle.wal_record.specs.Chains.{head, pages, last, greatest}
use Rattle.wal_record.specs.OpenWrites.{open_writes, open_list, losers, pending}
use Rattle.wal_record.specs.Contents.{current, committed_contents}
use Rattle.wal_record.specs.Upkeep.{written_lsn, page_backup, last_backup, lost_pages, unrestored, standing_runs, last_run}
use Rattle.wal_record.specs.Checkpoints.{checkpoint_of}
use Rattle.wal_record.specs.declared.record.Record.{Record}
use Rattle.wal_record.specs.declared.record.Record.TheVariants as kinds
use Rattle.wal_record.proofs.ExampleLogs.{apple, x, y, one, two, apple_log, loser_log, put_x_again}

-- after the commit the current and the committed contents are apple = 1
apple_now : get (current apple_log) apple ≡ Some one
unfolding current along
apple_now = get-insert nat_list_cmp_total empty apple one apple

apple_committed : get (committed_contents apple_log) apple ≡ Some one
unfolding committed_contents along open_writes
apple_committed = get-insert nat_list_cmp_total empty apple one apple

-- at the stop there is one loser, transaction 2, with the open write of x at LSN 4
one_loser : losers loser_log ≡ 2 ∷ []
unfolding greatest open_writes along
one_loser = refl

its_write : open_writes loser_log 2 ≡ put_x_again ∷ []
unfolding open_writes along
its_write = refl

its_list : open_list loser_log 2 ≡ record { lsn = 4; key = x } ∷ []
unfolding open_list along
its_list = refl

one_pending : pending loser_log ≡ 1
unfolding pending greatest open_writes along
one_pending = refl

-- the committed contents have x = 1 and y = 1, the current contents x = 2 and y = 1
x_committed : get (committed_contents loser_log) x ≡ Some one
unfolding committed_contents open_writes along
x_committed = get-insert nat_list_cmp_total (insert empty x one) y one x ∙ get-insert nat_list_cmp_total empty x one x

y_committed : get (committed_contents loser_log) y ≡ Some one
unfolding committed_contents open_writes along
y_committed = get-insert nat_list_cmp_total (insert empty x one) y one y

x_now : get (current loser_log) x ≡ Some two
unfolding current along
x_now = get-insert nat_list_cmp_total (insert (insert empty x one) x two) y one x ∙ get-insert nat_list_cmp_total (insert empty x one) x two x

y_now : get (current loser_log) y ≡ Some one
unfolding current along
y_now = get-insert nat_list_cmp_total (insert (insert empty x one) x two) y one y

-- page 1 was named last at LSN 5; transaction 2 has its last record at 4; there is one page
head_of_one : head loser_log 1 ≡ 5
unfolding head along
head_of_one = refl

no_head : head loser_log 2 ≡ 0
unfolding head along
no_head = refl

last_of_two : last loser_log 2 ≡ 4
unfolding last along
last_of_two = refl

one_page : pages loser_log ≡ 1
unfolding pages along
one_page = refl

-- ---- checkpoints and runs

-- after the stop a checkpoint lists two commits, page 1 with its head 5, and the loser
loser_checkpoint :
    checkpoint_of loser_log
    ≡ record {
      next_tx = 4;
      commits = 2;
      limit = 16384;
      pages = record { head = 5; written = 0; backup = 0; backup_lsn = 0 } ∷ [];
      transactions = record { tx = 2; last = 4; undo_next = 4; writes = record { lsn = 4; key = x } ∷ [] } ∷ [];
      lost = 0;
      unrestored = [];
      runs = [];
      next_backup = 1;
      next_run = 1;
    }
unfolding checkpoint_of greatest pages head written_lsn page_backup last open_writes open_list lost_pages unrestored standing_runs last_backup last_run along
loser_checkpoint = refl

-- the image with LSN 2 was written; after a loss it counts no more, and segment 0 waits for its restore
abbrev image_written : Record
image_written = kinds.Written (record { page = 1; lsn = 2 })

abbrev data_lost : Record
data_lost = kinds.Lost (record { pages = 1 })

written_at_two : written_lsn (loser_log ++ image_written ∷ []) 1 ≡ 2
unfolding written_lsn along
written_at_two = refl

none_written : written_lsn (loser_log ++ image_written ∷ data_lost ∷ []) 1 ≡ 0
unfolding written_lsn along
none_written = refl

waits : unrestored (loser_log ++ data_lost ∷ []) ≡ 0 ∷ []
unfolding unrestored along
waits = refl

waits_no_more : unrestored (loser_log ++ data_lost ∷ kinds.Restored (record { segment = 0 }) ∷ []) ≡ []
unfolding unrestored along
waits_no_more = refl

-- seventeen pages fill two segments
two_segments : unrestored (kinds.Lost (record { pages = 17 }) ∷ []) ≡ 0 ∷ 1 ∷ []
unfolding unrestored along
two_segments = refl

-- runs 1 and 2 are merged to run 4; run 3 stands behind it
abbrev run : ℕ → ℕ → ℕ → Record
run number first last = kinds.RunDone (record { run = number; first = first; last = last })

merged : standing_runs (run 1 1 4 ∷ run 2 5 6 ∷ run 3 7 9 ∷ run 4 1 6 ∷ []) ≡ record { run = 4; first = 1; last = 6 } ∷ record { run = 3; first = 7; last = 9 } ∷ []
unfolding standing_runs along
merged = refl
