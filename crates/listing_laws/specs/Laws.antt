-- A log's summary goes on with each record, and a checkpoint has all of it.
use Rattle.std.specs.Prelude.{◌≡◌, true, ◌<◌, ◌≤◌, ◌^◌, ℕ, ◌+◌, List, [], ◌∷◌, ◌++◌, length}
use Rattle.wal_record.specs.Chains.{pages, last}
use Rattle.wal_record.specs.OpenWrites.{open_list, is_loser, pending}
use Rattle.wal_record.specs.Checkpoints.{checkpoint_of, analysis_of, page_head}
use Rattle.wal_record.specs.Rules.{HasSpelling}
use Rattle.wal_record.specs.Spelling.{spelling}
use Rattle.wal_record.specs.Sound.{AreLawful}
use Rattle.wal_record.specs.declared.record.Checkpoint.{Checkpoint}
use Rattle.wal_record.specs.declared.record.Record.{Record}
use Rattle.wal_record.specs.declared.record.Record.TheVariants as kinds
use Rattle.listing_laws.specs.Summary.{summary_of, summary_step, from_checkpoint, go_on, analysis_in, checkpoint_in, entry_at, last_in, writes_in, pending_in}

-- a record more changes a log's summary by what the record says alone
pub record StepLaw (log : List Record) (r : Record) : Type 0 where
  pub step : AreLawful (log ++ r ∷ []) → summary_of (log ++ r ∷ []) ≡ summary_step (length log + 1) (summary_of log) r

-- a log that ends in a checkpoint is summed up by that
pub record CheckpointLaw (before : List Record) (c : Checkpoint) : Type 0 where
  pub whole : AreLawful (before ++ kinds.Checkpoint c ∷ []) → summary_of (before ++ kinds.Checkpoint c ∷ []) ≡ from_checkpoint (length before + 1) c

-- and any log by its last checkpoint and the records behind it
pub record RestLaw (before : List Record) (c : Checkpoint) (rest : List Record) : Type 0 where
  pub whole : AreLawful (before ++ kinds.Checkpoint c ∷ rest) → summary_of (before ++ kinds.Checkpoint c ∷ rest) ≡ go_on (from_checkpoint (length before + 1) c) rest

-- the analysis, the entries of pages, open writes and the room in use are read off the summary
pub record ReadingLaw (log : List Record) : Type 0 where
  pub analysis : analysis_of log ≡ analysis_in (checkpoint_of log)
  -- which says as much as the checkpoint
  pub checkpoint : checkpoint_in (analysis_of log) ≡ checkpoint_of log
  pub pages : length (checkpoint_of log).pages ≡ pages log
  -- of any page, made or not
  pub entry : AreLawful log → (p : ℕ) → page_head log p ≡ entry_at p (checkpoint_of log).pages
  pub writes : AreLawful log → (t : ℕ) → open_list log t ≡ writes_in t (checkpoint_of log).transactions
  -- who has open writes is listed with its last record
  pub last : AreLawful log → (t : ℕ) → is_loser log t ≡ true → last_in t (checkpoint_of log).transactions ≡ last log t
  pub pending : AreLawful log → pending log ≡ pending_in (checkpoint_of log).transactions

-- the checkpoint of a log keeps the rules of its fields, and has at most 2 MiB
pub record SpellingLaw (log : List Record) : Type 0 where
  pub spelled : AreLawful log → length log < 2 ^ 63 → HasSpelling (kinds.Checkpoint (checkpoint_of log))
  pub size : AreLawful log → length (spelling (kinds.Checkpoint (checkpoint_of log))) ≤ 2 ^ 21
