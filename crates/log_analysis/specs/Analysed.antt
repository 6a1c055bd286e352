-- What an analysis of a log's blocks answers.
use Rattle.std.specs.Prelude.{◌≡◌, ◌⊎◌, ◌<◌, ◌≤◌, ◌+◌, ◌-◌, ℕ, suc, max, List, ◌∷◌, ◌++◌, [], length}
use Rattle.log_blocks.specs.Log.{Block, first_lsn}
use Rattle.log_blocks.specs.declared.layout.TheConstants.{CHECKPOINT_AT}
use Rattle.log_manager.specs.Payload.{IsFirstFault}
use Rattle.log_manager.specs.Records.{AreSpelled, checkpoint_in}
use Rattle.store_model.specs.declared.fault.Fault.{Fault}
use Rattle.store_model.specs.declared.fault.Fault.TheVariants.{LogBad}
use Rattle.wal_record.specs.declared.record.Record.{Record}
use Rattle.log_analysis.specs.Taken.{HasNoCheckpoint}
use Rattle.log_analysis.specs.declared.taking.Named.{Named}

-- what the last of these blocks names: the LSN of the last Checkpoint, 0 for none; and its number
abbrev pub named_by : List Block → Named
named_by bs = record { checkpoint = checkpoint_in 0 bs; block = length bs - 1 }

-- the LSN of the record from which an analysis goes on
abbrev pub begins_at : List Block → ℕ
begins_at bs = max 1 (checkpoint_in 0 bs)

-- An analysis comes to the block with this number: the block ends no earlier than where the analysis begins, which is in
-- it or in a block before it, and those in between have the records that they count.
pub record ComesTo (bs : List Block) (number : ℕ) (block : Block) : Type 0 where
  pub before : List Block
  pub read : List Block
  pub behind : List Block
  pub is : bs ≡ (before ++ read) ++ block ∷ behind
  pub number_is : length (before ++ read) ≡ number
  pub needed : begins_at bs < block.first + block.count
  pub from : first_lsn (read ++ block ∷ []) ≤ begins_at bs
  pub own : List Record
  pub spelled : AreSpelled read own

-- the payload of the block with this number has its first fault at this byte of the block
pub record HasFault (bs : List Block) (number byte : ℕ) : Type 0 where
  pub block : Block
  pub comes : ComesTo bs number block
  pub fault : IsFirstFault block.count block.payload byte

-- the record that the last block names as the last Checkpoint isn't kept
abbrev pub LacksNamed : List Block → Type 0
LacksNamed bs = begins_at bs < first_lsn bs

-- or it is no Checkpoint
pub record NamesOther (bs : List Block) : Type 0 where
  pub number : ℕ
  pub block : Block
  pub comes : ComesTo bs number block
  pub other : HasNoCheckpoint (named_by bs) block.first block.count block.payload

-- Why the blocks are those of no log, and which block and byte is named for it.
abbrev pub IsNotAnalysed : List Block → Fault → Type 0
IsNotAnalysed bs (LogBad number byte) = HasFault bs number byte ⊎ ((suc number ≡ length bs) × (byte ≡ CHECKPOINT_AT) × (LacksNamed bs ⊎ NamesOther bs))
-- memory and the disk have their causes
IsNotAnalysed bs fault = Unit {0}
