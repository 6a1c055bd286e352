-- The log of records as contracts see it.
use Rattle.std.specs.Prelude.{◌≡◌, ◌⊎◌, ◌≤◌, ◌<◌, ◌+◌, ◌-◌, ◌*◌, ◌^◌, ℕ, suc, List, [], ◌∷◌, ◌++◌, length, map, take, drop, min, None, Some, ⊤, nat_le, if◌then◌else◌, slice_index_or}
use Rattle.media.specs.Kept.{Kept}
use Rattle.store_model.specs.declared.fault.Fault.{Fault}
use Rattle.store_model.specs.declared.fault.Fault.TheVariants.{Memory, LogBad, Ended}
use Rattle.log_blocks.specs.Batch.{numbered, records_in, IsChecked}
use Rattle.log_blocks.specs.Log.{Block, blocks, first_lsn}
use Rattle.log_blocks.specs.LogState.{LogState, Refused, checkpoint_of, durable_lsn, firsts, log_end}
use Rattle.log_blocks.specs.declared.header.Place.{Place}
use Rattle.std.specs.List.{All}
use Rattle.wal_record.specs.Rules.{HasSpelling}
use Rattle.wal_record.specs.Spelling.{spelling}
use Rattle.wal_record.specs.declared.record.Record.{Record}
use Rattle.log_manager.specs.Groups.{EndsBlock}
use Rattle.log_manager.specs.Payload.{IsFaultBehind, IsFirstFault, bytes_of}
use Rattle.log_manager.specs.Records.{IsLogOf, StandsForMoreRecords, StandsForRecords}
use Rattle.log_manager.specs.declared.counted.Counted.{Counted}
use Rattle.log_manager.specs.declared.counted.TheConstants.{COMMIT}
use Rattle.wal_record.specs.Checkpoints.{checkpoint_after}

-- the block log, with the blocks in memory among its pending ones, and for how many commits there is room
pub record Managed (D : Type 0) : Type 0 where
  pub log : LogState D
  pub spare : ℕ

-- the log once these blocks have joined its pending ones
abbrev pub with_batch : {D : Type 0} → LogState D → List Block → LogState D
with_batch log bs = record log { pending = log.pending ++ numbered log.next bs; next = log.next + records_in bs }

-- the LSN of the first record that the log keeps, or will have
abbrev pub first_kept : {D : Type 0} → LogState D → ℕ
first_kept log = slice_index_or (firsts log) 0 log.next

-- these records stand together at the end of one block
pub record InOneBlock (recs : List Record) (pending : List Block) : Type 0 where
  pub front : List Block
  pub block : Block
  pub own : List ℕ
  pub is : pending ≡ front ++ block ∷ []
  pub payload : block.payload ≡ own ++ bytes_of recs

-- these records joined the pending ones, all in one block
pub record HasMore {D : Type 0} (recs : List Record) (old new : LogState D) : Type 0 where
  pub pending : List Block
  pub is : new ≡ record old { pending = pending; next = old.next + length recs }
  pub group : InOneBlock recs pending

-- What is counted of the blocks in memory. Records, and commits to come, have their places in the log.
pub record IsCounted {D : Type 0} (log : LogState D) (bs : List Block) (spare : ℕ) (c : Counted) : Type 0 where
  pub checked : IsChecked log.next bs
  pub count : c.records ≡ records_in bs
  pub none : c.records ≡ 0 → bs ≡ []
  pub size : length (blocks bs) + COMMIT * spare ≤ c.bytes
  pub few : c.records + spare ≤ 2 ^ 62
  pub short : c.bytes ≤ 2 ^ 62
  pub places : 0 < c.records + spare → log.next + c.records + spare ≤ 2 ^ 62
  pub room : 0 < c.records + spare → log_end log + c.bytes < 2 ^ 62
  pub checkpoint : c.checkpoint ≡ min (checkpoint_of (with_batch log bs)) (log.next + c.records - 1)

-- why a group isn't added
abbrev pub NotAdded : {D : Type 0} → LogState D → Fault → Type 0
NotAdded log Memory = log.ended ≡ None
NotAdded log (Ended at) = log.ended ≡ Some at
NotAdded log fault = ⊥

-- how many of these durable blocks end before an LSN and aren't the last
abbrev pub before_lsn : ℕ → List Place → ℕ
before_lsn upto [] = 0
before_lsn upto (p ∷ []) = 0
before_lsn upto (p ∷ q ∷ ps) = if nat_le q.first upto then suc (before_lsn upto (q ∷ ps)) else 0

-- the first n of these durable blocks end before an LSN, and aren't the last; the next one doesn't, or is the last
pub record EndBefore (upto : ℕ) (ps : List Place) (n : ℕ) : Type 0 where
  pub not_last : n ≤ length ps - 1
  pub each : (i : ℕ) → i < n → slice_index_or (map (λ p. p.first) ps) (i + 1) 0 ≤ upto
  pub no_more : n + 1 < length ps → upto < slice_index_or (map (λ p. p.first) ps) (n + 1) 0

-- how many records blocks at these places have
abbrev pub records_at : List Place → ℕ
records_at [] = 0
records_at (p ∷ ps) = p.count + records_at ps

-- how many records the durable blocks have that end before an LSN and aren't the last
abbrev pub recycled : ℕ → List Place → ℕ
recycled upto ps = records_at (take (before_lsn upto ps) ps)

-- of blocks with these first LSNs, the one at this place begins at or before an LSN, and the next one behind it
pub record HasLsn (first : List ℕ) (lsn place : ℕ) : Type 0 where
  pub within : place < length first
  pub from : slice_index_or first place 0 ≤ lsn
  pub upto : place + 1 < length first → lsn < slice_index_or first (place + 1) 0

-- this record stands in the payload behind so many others
pub record IsReadAt (payload : List ℕ) (place : ℕ) (r : Record) : Type 0 where
  pub front : List Record
  pub rest : List ℕ
  pub spelled : All HasSpelling front
  pub bytes : payload ≡ bytes_of front ++ (spelling r ++ rest)
  pub at : length front ≡ place

-- why the record at this place isn't read from a block with this number and payload
abbrev pub IsUnreadAt : ℕ → List ℕ → ℕ → Fault → Type 0
IsUnreadAt number payload place Memory = Unit {0}
IsUnreadAt number payload place (LogBad block byte) = (front : List Record) × (length front ≤ place) × (block ≡ number) × IsFaultBehind front payload byte
IsUnreadAt number payload place fault = ⊥

-- the block with this number has an LSN
pub record HasRecord (bs : List Block) (number lsn : ℕ) (b : Block) : Type 0 where
  pub before : List Block
  pub behind : List Block
  pub is : bs ≡ before ++ b ∷ behind
  pub number_is : length before ≡ number
  pub from : b.first ≤ lsn
  pub upto : lsn < b.first + b.count

-- What a read of an LSN gives is the record at its place in the block that has it.
pub record IsRecordOf (bs : List Block) (lsn : ℕ) (r : Record) : Type 0 where
  pub number : ℕ
  pub block : Block
  pub has : HasRecord bs number lsn block
  pub read : IsReadAt block.payload (lsn - block.first) r

-- A read of an LSN names the block that has it as bad, at the first fault of its payload, which stands no later than in
-- the record of the LSN.
pub record IsBadRead (bs : List Block) (lsn number byte : ℕ) : Type 0 where
  pub block : Block
  pub has : HasRecord bs number lsn block
  pub fault : IsFirstFault block.count block.payload byte
  pub no_later : block.first + length fault.front ≤ lsn

-- where a read of this LSN names a block as bad
abbrev pub IsBadIn : List Block → ℕ → Fault → Type 0
IsBadIn bs lsn (LogBad block byte) = IsBadRead bs lsn block byte
IsBadIn bs lsn fault = Unit {0}

-- why a read is refused: the log had ended, its disk failed in this call and ended it, want of memory, or a block that
-- holds no records there
abbrev pub ReadRefused : {D : Type 0} → (D → ℕ) → LogState D → LogState D → Fault → Type 0
ReadRefused faults old new (LogBad block byte) = (old.ended ≡ None) × (new.ended ≡ None)
ReadRefused faults old new fault = Refused ⊤ faults old new fault

abbrev pub IsNoBadLog : Fault → Type 0
IsNoBadLog (LogBad block byte) = ⊥
IsNoBadLog _ = Unit {0}

-- the record at this place
pub record IsAt (rs : List Record) (i : ℕ) (r : Record) : Type 0 where
  pub front : List Record
  pub back : List Record
  pub is : rs ≡ front ++ r ∷ back
  pub place : length front ≡ i

-- What a flush leaves, also one that failed. The first of the waiting records are stable now. A read now, and one after
-- a crash that comes now, gives the records that were stable, these, and maybe further ones in order; they end where a
-- block ends. The last Checkpoint before them has the LSN `before`, as it had.
pub record RecordsLeft {D : Type 0} (told : D → Kept) (may_leave : D → Kept → Type 0) (before : ℕ) (stable waiting : List Record) (old new : LogState D) : Type 0 where
  pub done : ℕ
  pub within : done ≤ length waiting
  pub durable : durable_lsn new.places ≡ durable_lsn old.places + done
  pub read : StandsForMoreRecords before (first_kept old) stable waiting done (told new.device)
  pub crash : (k : Kept) → may_leave new.device k → StandsForMoreRecords before (first_kept old) stable waiting done k
  pub read_whole : EndsBlock old.pending read.whole
  pub crash_whole : (k : Kept) (left : may_leave new.device k) → EndsBlock old.pending (crash k left).whole

-- Of records that begin with an LSN, behind a last Checkpoint, the kept bytes stand for those from the n-th on. The last
-- Checkpoint before these is then the last one of those that go, or the one before.
pub record StandsForFrom (before first : ℕ) (rs : List Record) (n : ℕ) (k : Kept) : Type 0 where
  pub stands : StandsForRecords (checkpoint_after before first (take n rs)) (drop n rs) k
  pub numbered : first_lsn stands.bs ≡ first + n

-- all of them, or those from the n-th on
abbrev pub StandsForRest : ℕ → ℕ → List Record → ℕ → Kept → Type 0
StandsForRest before first rs n k = StandsForFrom before first rs 0 k ⊎ StandsForFrom before first rs n k

-- What recycling leaves, also where it failed: for a read now, and for one after a crash that comes now.
pub record RecycleLeaves {D : Type 0} (told : D → Kept) (may_leave : D → Kept → Type 0) (before first : ℕ) (rs : List Record) (n : ℕ) (device : D) : Type 0 where
  pub read : StandsForRest before first rs n (told device)
  pub crash : (k : Kept) → may_leave device k → StandsForRest before first rs n k

-- the log has the stable records from the n-th on, and those that wait; the last Checkpoint before them is as above
pub record IsLogFrom {D : Type 0} (told : D → Kept) (may_leave : D → Kept → Type 0) (before first : ℕ) (stable waiting : List Record) (n : ℕ) (log : LogState D) : Type 0 where
  pub stands : IsLogOf told may_leave log (checkpoint_after before first (take n stable)) (drop n stable) waiting
  pub numbered : first_kept log ≡ first + n
