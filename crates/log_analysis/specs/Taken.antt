-- What the records of a block make of a listing, and why they aren't taken.
use Rattle.std.specs.Prelude.{◌≡◌, ◌⊎◌, ℕ, ◌+◌, ◌<◌, ◌≤◌, ◌^◌, List, [], ◌∷◌, ◌++◌, length, drop, false}
use Rattle.std.specs.List.{All}
use Rattle.store_model.specs.declared.fault.Fault.{Fault}
use Rattle.store_model.specs.declared.fault.Fault.TheVariants.{Memory, LogBad}
use Rattle.wal_record.specs.Checkpoints.{is_checkpoint}
use Rattle.wal_record.specs.Rules.{HasSpelling}
use Rattle.wal_record.specs.Sound.{AreLawful}
use Rattle.wal_record.specs.Spelling.{spelling}
use Rattle.wal_record.specs.declared.record.Record.{Record}
use Rattle.log_blocks.specs.declared.layout.TheConstants.{CHECKPOINT_AT}
use Rattle.log_index.specs.GoingOn.{KnowsLast, may_go_on}
use Rattle.log_index.specs.Listing.{IsListingOf}
use Rattle.log_index.specs.declared.listing.Listing.{Listing}
use Rattle.log_manager.specs.Payload.{IsFaultBehind, IsFirstFault, IsPayloadOf, bytes_of}
use Rattle.log_analysis.specs.declared.taking.Named.{Named}

-- the listing is that of these records, and knows the last record of each transaction that may go on behind them
abbrev pub GoesOnWith : List Record → Listing → Type 0
GoesOnWith log s = IsListingOf log s × KnowsLast (may_go_on log) log s

-- so it is, if the records reach to the Checkpoint with this LSN; 0 stands for none
abbrev pub IsListed : ℕ → List Record → Listing → Type 0
IsListed checkpoint log s = checkpoint ≤ length log → GoesOnWith log s

-- Records that stand behind those of a log, the first of them with this LSN, make the listing of the longer log.
abbrev pub ListsMore : ℕ → ℕ → List Record → Listing → Listing → Type 0
ListsMore checkpoint lsn own old new = (log : List Record) → AreLawful (log ++ own) → lsn ≡ length log + 1 → length (log ++ own) < 2 ^ 63 → IsListed checkpoint log old → IsListed checkpoint (log ++ own) new

-- the record with the LSN that is named as the Checkpoint's is none
pub record IsNoCheckpoint (named : Named) (lsn : ℕ) (r : Record) : Type 0 where
  pub here : lsn ≡ named.checkpoint
  pub other : is_checkpoint r ≡ false

abbrev pub IsNotTaken : Named → ℕ → Record → Fault → Type 0
IsNotTaken named lsn r Memory = Unit {0}
IsNotTaken named lsn r (LogBad block byte) = (block ≡ named.block) × (byte ≡ CHECKPOINT_AT) × IsNoCheckpoint named lsn r
IsNotTaken named lsn r fault = ⊥

-- a record of a payload is read and taken: where it begins, and where the next one does
pub record IsTaken (payload : List ℕ) (at next checkpoint lsn : ℕ) (old new : Listing) : Type 0 where
  pub taken : Record
  pub spelled : HasSpelling taken
  pub bytes : drop at payload ≡ spelling taken ++ drop next payload
  pub more : ListsMore checkpoint lsn (taken ∷ []) old new

-- the record that stands behind these in a payload
pub record IsNext (front : List Record) (payload : List ℕ) (r : Record) : Type 0 where
  pub spelled : All HasSpelling front × HasSpelling r
  pub rest : List ℕ
  pub bytes : payload ≡ bytes_of front ++ (spelling r ++ rest)

-- why the record with this LSN, behind these of a block's payload, isn't taken
abbrev pub IsNotTakenBehind : Named → ℕ → ℕ → List Record → List ℕ → Fault → Type 0
IsNotTakenBehind named number lsn front payload Memory = Unit {0}
IsNotTakenBehind named number lsn front payload (LogBad block byte) =
    ((block ≡ number) × IsFaultBehind front payload byte)
    ⊎ ((block ≡ named.block) × (byte ≡ CHECKPOINT_AT) × (r : Record) × IsNext front payload r × IsNoCheckpoint named lsn r)
IsNotTakenBehind named number lsn front payload fault = ⊥

-- records of a payload, as many as are counted, are taken
abbrev pub AreTaken : ℕ → ℕ → ℕ → List ℕ → Listing → Listing → Type 0
AreTaken checkpoint first count payload old new = (own : List Record) × IsPayloadOf own count payload × ListsMore checkpoint first own old new

-- The record of the LSN that is named as the Checkpoint's stands in this block, and is none.
pub record HasNoCheckpoint (named : Named) (first count : ℕ) (payload : List ℕ) : Type 0 where
  pub front : List Record
  pub within : length front < count
  pub found : Record
  pub next : IsNext front payload found
  pub none : IsNoCheckpoint named (first + length front) found

-- Why a block isn't taken: its payload has its first fault at this byte, or the last header names a record of it as the
-- Checkpoint that is none.
abbrev pub IsNotTakenIn : Named → ℕ → ℕ → ℕ → List ℕ → Fault → Type 0
IsNotTakenIn named number first count payload Memory = Unit {0}
IsNotTakenIn named number first count payload (LogBad block byte) =
    ((block ≡ number) × IsFirstFault count payload byte) ⊎ ((block ≡ named.block) × (byte ≡ CHECKPOINT_AT) × HasNoCheckpoint named first count payload)
IsNotTakenIn named number first count payload fault = ⊥

-- want of memory, or a bad block
abbrev pub IsOfBlock : Fault → Type 0
IsOfBlock Memory = Unit {0}
IsOfBlock (LogBad block byte) = Unit {0}
IsOfBlock fault = ⊥
