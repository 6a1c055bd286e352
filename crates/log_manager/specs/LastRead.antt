-- The payload that was read last, and where its records begin.
use Rattle.std.specs.Prelude.{◌≡◌, ◌<◌, ◌≤◌, ◌+◌, ℕ, List, ◌++◌, length, drop, slice_index_or}
use Rattle.std.specs.List.{All}
use Rattle.media.specs.Kept.{Kept}
use Rattle.log_blocks.specs.Log.{Block, StandsFor}
use Rattle.log_blocks.specs.LogState.{LogState, firsts, payload_at}
use Rattle.log_blocks.specs.Opening.{places}
use Rattle.wal_record.specs.Rules.{HasSpelling}
use Rattle.wal_record.specs.declared.record.Record.{Record}
use Rattle.log_manager.specs.Payload.{bytes_of}

-- the number of a block, the LSN of its first record and that behind its last, and its payload
pub record ReadBlock : Type 0 where
  pub block : ℕ
  pub first : ℕ
  pub behind : ℕ
  pub payload : List ℕ

-- the block has an LSN
abbrev pub IsWithin : ReadBlock → ℕ → Type 0
IsWithin r lsn = (r.first ≤ lsn) × (lsn < r.behind)

-- behind so many records of a payload, the next one begins at this byte
pub record IsStart (payload : List ℕ) (place at : ℕ) : Type 0 where
  pub front : List Record
  pub spelled : All HasSpelling front
  pub count : length front ≡ place
  pub within : at ≤ length payload
  pub bytes : payload ≡ bytes_of front ++ drop at payload

-- the first records of a payload begin at these bytes
abbrev pub AreStarts : List ℕ → List ℕ → Type 0
AreStarts payload starts = (k : ℕ) → k < length starts → IsStart payload k (slice_index_or starts k 0)

-- What was read last is the payload of the block with its number, of whatever blocks the disk has, and the LSNs are that
-- block's.
pub record IsLastRead {D : Type 0} (tells : Type 0) (told : D → Kept) (log : LogState D) (r : ReadBlock) : Type 0 where
  pub within : r.block < length (firsts log)
  pub first : r.first ≡ slice_index_or (firsts log) r.block 0
  pub behind : r.behind ≡ slice_index_or (firsts log) (r.block + 1) log.next
  pub payload : tells → (bs : List Block) → StandsFor bs (told log.device) → log.places ≡ places (told log.device).start bs → r.payload ≡ payload_at (bs ++ log.pending) r.block
