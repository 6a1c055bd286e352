-- Records of upkeep that are lawful: an image was written, a backup and runs were made, the data device was lost and
-- a segment restored, and a checkpoint tells all of it. A page whose image was written may be repaired.
use Rattle.std.proofs.Common.{ℕ, List, [], ◌∷◌, ◌++◌, refl, arith}
use Rattle.store_model.specs.Along.{along, AllAlong}
use Rattle.wal_record.specs.declared.record.Record.{Record}
use Rattle.wal_record.specs.declared.record.Checkpoint.{Checkpoint}
use Rattle.wal_record.specs.declared.record.Record.TheVariants as kinds
use Rattle.wal_record.specs.declared.entry.Entry.TheVariants.{Repaired}
use Rattle.wal_record.specs.Chains.{head, pages, last, greatest}
use Rattle.wal_record.specs.OpenWrites.{open_writes, open_list, pending}
use Rattle.wal_record.specs.Contents.{current}
use Rattle.wal_record.specs.Images.{applied, image, CanApply}
use Rattle.wal_record.specs.Upkeep.{written_lsn, page_backup, last_backup, lost_pages, unrestored, standing_runs, last_run}
use Rattle.wal_record.specs.Checkpoints.{checkpoint_of}
use Rattle.wal_record.specs.Sound.{IsLawful}
use Rattle.wal_record.specs.Legal.{untold, split_leaf, IsAllowed}
use Rattle.wal_record.proofs.ExampleLogs.{apple_log, loser_log}

-- page 1 with its record 2 is on the data device, and in a backup
abbrev write_image : Record
write_image = kinds.Written (record { page = 1; lsn = 2 })

abbrev back_up : Record
back_up = kinds.BackupDone (record { backup = 1; segment = 0; pages = record { page = 1; lsn = 2 } ∷ [] })

abbrev run : ℕ → ℕ → ℕ → Record
run number first last = kinds.RunDone (record { run = number; first = first; last = last })

abbrev lose : Record
lose = kinds.Lost (record { pages = 1 })

abbrev restore : Record
restore = kinds.Restored (record { segment = 0 })

written_lawful : IsLawful apple_log write_image
unfolding image along applied CanApply head last current pages pending greatest open_writes
written_lawful = record {
  first = refl;
  chain = tt;
  heads = tt;
  place = tt;
  value = tt;
  fields = record { page = refl; lsn = refl };
  applicable = λ p e. absurd cc;
  upkeep = refl;
  room = record { most = omega arith; next = λ e. absurd (omega arith) };
}

backup_lawful : IsLawful apple_log back_up
unfolding image along applied CanApply head last current pages pending greatest open_writes last_backup AllAlong
backup_lawful = record {
  first = refl;
  chain = tt;
  heads = tt;
  place = tt;
  value = tt;
  fields = record { backup = refl; segment = refl; pages_count = refl; pages = (refl, tt) };
  applicable = λ p e. absurd cc;
  upkeep = record { images = refl; inside = refl; fresh = refl; number = refl };
  room = record { most = omega arith; next = λ e. absurd (omega arith) };
}

run_lawful : IsLawful apple_log (run 1 1 2)
unfolding image along applied CanApply head last current pages pending greatest open_writes standing_runs last_run
run_lawful = record {
  first = refl;
  chain = tt;
  heads = tt;
  place = tt;
  value = tt;
  fields = record { run = refl; first = refl; last = refl };
  applicable = λ p e. absurd cc;
  upkeep = record { covers = omega arith; range = refl; ends = omega arith; number = refl; most = omega arith };
  room = record { most = omega arith; next = λ e. absurd (omega arith) };
}

-- a merged run has the range of the runs that it covers
abbrev two_runs : List Record
two_runs = apple_log ++ run 1 1 2 ∷ run 2 3 4 ∷ []

merge_lawful : IsLawful two_runs (run 3 1 4)
unfolding image along applied CanApply head last current pages pending greatest open_writes standing_runs last_run
merge_lawful = record {
  first = refl;
  chain = tt;
  heads = tt;
  place = tt;
  value = tt;
  fields = record { run = refl; first = refl; last = refl };
  applicable = λ p e. absurd cc;
  upkeep = record { covers = omega arith; range = refl; ends = omega arith; number = refl; most = omega arith };
  room = record { most = omega arith; next = λ e. absurd (omega arith) };
}

lost_lawful : IsLawful apple_log lose
unfolding image along applied CanApply head last current pages pending greatest open_writes
lost_lawful = record {
  first = refl;
  chain = tt;
  heads = tt;
  place = tt;
  value = tt;
  fields = record { pages = refl };
  applicable = λ p e. absurd cc;
  upkeep = refl;
  room = record { most = omega arith; next = λ e. absurd (omega arith) };
}

restored_lawful : IsLawful (apple_log ++ lose ∷ []) restore
unfolding image along applied CanApply head last current pages pending greatest open_writes unrestored
restored_lawful = record {
  first = refl;
  chain = tt;
  heads = tt;
  place = tt;
  value = tt;
  fields = record { segment = refl };
  applicable = λ p e. absurd cc;
  upkeep = refl;
  room = record { most = omega arith; next = λ e. absurd (omega arith) };
}

-- a log with a loser, and with something for each list of a checkpoint
abbrev busy_log : List Record
busy_log = loser_log ++ back_up ∷ run 1 1 6 ∷ lose ∷ write_image ∷ []

abbrev busy_checkpoint : Checkpoint
busy_checkpoint = record { next_tx = 4; commits = 2; limit = 16384; pages = record { head = 5; written = 2; backup = 1; backup_lsn = 2 } ∷ []; transactions = record { tx = 2; last = 4; undo_next = 4; writes = record { lsn = 4; key = 120 ∷ [] } ∷ [] } ∷ []; lost = 1; unrestored = 0 ∷ []; runs = record { run = 1; first = 1; last = 6 } ∷ []; next_backup = 2; next_run = 2 }

checkpoint_lawful : IsLawful busy_log (kinds.Checkpoint busy_checkpoint)
unfolding checkpoint_of image along applied CanApply head last current pages pending greatest open_writes open_list written_lsn page_backup last_backup lost_pages unrestored standing_runs last_run AllAlong
checkpoint_lawful = record {
  first = refl;
  chain = tt;
  heads = tt;
  place = tt;
  value = tt;
  fields = record { next_tx = refl; commits = refl; limit = refl; pages_count = refl; pages = refl; transactions_count = refl; transactions = (record { tx = refl; last = refl; undo_next = refl; count = refl; writes = (refl, tt) }, tt); lost = refl; unrestored_count = refl; unrestored = (refl, tt); runs_count = refl; runs = (refl, tt); next_backup = refl; next_run = refl };
  applicable = λ p e. absurd cc;
  upkeep = refl;
  room = record { most = omega arith; next = λ e. absurd (omega arith) };
}

repaired_legal : IsAllowed (apple_log ++ write_image ∷ []) [] (Repaired 1)
unfolding untold split_leaf written_lsn along
repaired_legal = record { split = tt; rule = record { told = refl; image = omega arith } }
