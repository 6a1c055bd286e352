-- The payload of a block, read as the records that it counts.
use Rattle.std.specs.Prelude.{◌≡◌, ◌⊎◌, ◌≤◌, ◌<◌, ◌+◌, ℕ, List, ◌++◌, length, Err, flat_map}
use Rattle.std.specs.List.{All}
use Rattle.log_blocks.specs.declared.layout.TheConstants.{PAYLOAD_AT}
use Rattle.store_model.specs.declared.fault.Fault.{Fault}
use Rattle.store_model.specs.declared.fault.Fault.TheVariants.{Memory, LogBad}
use Rattle.wal_record.specs.Reading.{record_at}
use Rattle.wal_record.specs.Rules.{HasSpelling}
use Rattle.wal_record.specs.Spelling.{spelling}
use Rattle.wal_record.specs.declared.record.Record.{Record}

-- records as bytes, one behind the other
abbrev pub bytes_of : List Record → List ℕ
bytes_of rs = flat_map spelling rs

-- the payload is these records, as many as are counted
pub record IsPayloadOf (rs : List Record) (count : ℕ) (payload : List ℕ) : Type 0 where
  pub spelled : All HasSpelling rs
  pub count_is : count ≡ length rs
  pub payload_is : payload ≡ bytes_of rs

-- The payload goes on behind these records with this rest, of which so many bytes are left at a byte of the block.
pub record GoesOn (front : List Record) (payload rest : List ℕ) (left byte : ℕ) : Type 0 where
  pub spelled : All HasSpelling front
  pub bytes : payload ≡ bytes_of front ++ rest
  pub place : byte + left ≡ PAYLOAD_AT + length payload

-- Behind so many records that a block counts, its payload has a fault in the next one, or a surplus behind the last.
abbrev pub Breaks : ℕ → ℕ → List ℕ → ℕ → Type 0
Breaks count read rest left = ((read < count) × (record_at rest ≡ Err left)) ⊎ ((read ≡ count) × (left ≡ length rest) × (1 ≤ left))

-- The payload of a block that counts this many records has its first fault at this byte of the block: it is these
-- records and then the first field that is cut or breaks its rule, or all that are counted and then a surplus.
pub record IsFirstFault (count : ℕ) (payload : List ℕ) (byte : ℕ) : Type 0 where
  pub front : List Record
  pub rest : List ℕ
  pub left : ℕ
  pub goes_on : GoesOn front payload rest left byte
  pub breaks : Breaks count (length front) rest left

-- a field of the payload, behind these records, is cut or breaks its rule; in the block it begins at this byte
pub record IsFaultBehind (front : List Record) (payload : List ℕ) (byte : ℕ) : Type 0 where
  pub rest : List ℕ
  pub left : ℕ
  pub goes_on : GoesOn front payload rest left byte
  pub fault : record_at rest ≡ Err left

-- why no record is read behind these from a block with this number and payload
abbrev pub NotRead : ℕ → List Record → List ℕ → Fault → Type 0
NotRead number front payload Memory = Unit {0}
NotRead number front payload (LogBad block byte) = (block ≡ number) × IsFaultBehind front payload byte
NotRead number front payload fault = ⊥

-- bytes stand behind these records in a block with this number and payload, which counts no more
abbrev pub IsSurplus : ℕ → List Record → List ℕ → Fault → Type 0
IsSurplus number rs payload (LogBad block byte) = (block ≡ number) × IsFirstFault (length rs) payload byte
IsSurplus number rs payload fault = ⊥
