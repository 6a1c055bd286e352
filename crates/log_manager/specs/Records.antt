-- Which records the blocks of a log hold.
use Rattle.std.specs.Prelude.{◌≡◌, ◌⊎◌, ◌≤◌, ◌+◌, ℕ, List, [], ◌∷◌, ◌++◌, length, take, map, true, false}
use Rattle.std.specs.List.{All}
use Rattle.media.specs.Kept.{Kept}
use Rattle.log_blocks.specs.Log.{Block, StandsFor, first_lsn}
use Rattle.log_blocks.specs.LogState.{LogState, AreNumbered, IsDurable, last_or}
use Rattle.wal_record.specs.declared.record.Record.{Record}
use Rattle.wal_record.specs.declared.record.Record.TheVariants as kinds
use Rattle.log_manager.specs.Payload.{IsPayloadOf}
use Rattle.wal_record.specs.Checkpoints.{checkpoint_after, is_checkpoint}

-- of these records, the first of which has the LSN first, the one with this LSN is the last Checkpoint
pub record IsLastOf (first : ℕ) (rs : List Record) (lsn : ℕ) : Type 0 where
  pub front : List Record
  pub found : Record
  pub back : List Record
  pub is : rs ≡ front ++ found ∷ back
  pub checkpoint : is_checkpoint found ≡ true
  pub none_behind : All (λ r. is_checkpoint r ≡ false) back
  pub place : lsn ≡ first + length front

-- the LSN of the last Checkpoint of these records; where none of them is one, `before`
abbrev pub IsLastCheckpoint : ℕ → ℕ → List Record → ℕ → Type 0
IsLastCheckpoint before first rs lsn = ((lsn ≡ before) × All (λ r. is_checkpoint r ≡ false) rs) ⊎ IsLastOf first rs lsn

-- the payloads of the blocks are these records, each block's its own
abbrev pub AreSpelled : List Block → List Record → Type 0
AreSpelled [] rs = rs ≡ []
AreSpelled (b ∷ bs) rs = (own : List Record) × (more : List Record) × (rs ≡ own ++ more) × IsPayloadOf own b.count b.payload × AreSpelled bs more

-- the block holds these records, where the last Checkpoint before them has the LSN `before`
pub record Holds (before : ℕ) (b : Block) (rs : List Record) : Type 0 where
  pub records : IsPayloadOf rs b.count b.payload
  pub checkpoint : b.checkpoint ≡ checkpoint_after before b.first rs

-- the blocks hold these records, each block its own
abbrev pub AreIn : ℕ → List Block → List Record → Type 0
AreIn before [] rs = rs ≡ []
AreIn before (b ∷ bs) rs = (own : List Record) × (more : List Record) × (rs ≡ own ++ more) × Holds before b own × AreIn b.checkpoint bs more

-- the Checkpoint LSN of the last of these blocks
abbrev pub checkpoint_in : ℕ → List Block → ℕ
checkpoint_in before bs = last_or before (map (λ b. b.checkpoint) bs)

-- The blocks are all of a log, and hold these records. The last Checkpoint of the records that were dropped has the LSN
-- `before`, 0 where none was dropped or none of them is one.
pub record AreRecordsOf (before : ℕ) (bs : List Block) (rs : List Record) : Type 0 where
  pub none : first_lsn bs ≡ 1 → before ≡ 0
  pub records : AreIn before bs rs

-- The kept bytes stand for blocks that hold these records, before which the last Checkpoint has the LSN `before`.
pub record StandsForRecords (before : ℕ) (rs : List Record) (k : Kept) : Type 0 where
  pub bs : List Block
  pub stands : StandsFor bs k
  pub records : AreRecordsOf before bs rs

-- The log has these records: the stable ones on its disk, whatever crash comes now, and those that wait for a flush. The
-- last Checkpoint of the records that were dropped has the LSN `before`, 0 where there is none.
pub record IsLogOf {D : Type 0} (told : D → Kept) (may_leave : D → Kept → Type 0) (log : LogState D) (before : ℕ) (stable waiting : List Record) : Type 0 where
  pub bs : List Block
  pub durable : IsDurable told may_leave log bs
  pub records : AreRecordsOf before bs stable
  pub more : AreIn (checkpoint_in before bs) log.pending waiting
  pub numbered : AreNumbered log

-- The kept bytes stand for the stable records and some of the waiting ones in order, at least so many of them. The first
-- record has this LSN, and the last Checkpoint before it the LSN `before`.
pub record StandsForMoreRecords (before first : ℕ) (stable waiting : List Record) (least : ℕ) (k : Kept) : Type 0 where
  pub whole : ℕ
  pub no_fewer : least ≤ whole
  pub within : whole ≤ length waiting
  pub stands : StandsForRecords before (stable ++ take whole waiting) k
  pub numbered : first_lsn stands.bs ≡ first
