-- Parts of spellings that several fields, or several kinds of records, have.
use Rattle.std.specs.Prelude.{ℕ, List, ◌++◌}
use Rattle.std.specs.Int.{w16, w32, w64}
use Rattle.wal_record.specs.Spelling.{number_bytes, text_bytes, list_bytes, run_bytes}
use Rattle.wal_record.specs.declared.record.Checkpoint.{Checkpoint}

-- what each change of a row begins with, behind its kind
abbrev pub change_bytes : ℕ → ℕ → ℕ → ℕ → List ℕ → List ℕ
change_bytes tx prev page page_prev key = number_bytes w64 tx ++ number_bytes w64 prev ++ number_bytes w32 page ++ number_bytes w64 page_prev ++ text_bytes key

-- the second half of a Checkpoint: lost pages, runs, and the numbers to come
abbrev pub losses_bytes : Checkpoint → List ℕ
losses_bytes r = number_bytes w32 r.lost ++ list_bytes w32 (number_bytes w32) r.unrestored ++ list_bytes w16 run_bytes r.runs ++ number_bytes w64 r.next_backup ++ number_bytes w64 r.next_run
