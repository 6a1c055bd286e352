-- A record that stands alone and is made durable at once: what entering one enters.
use Rattle.std.specs.Prelude.{◌⊎◌, ℕ, List, [], ◌∷◌, Result, Ok, Err}
use Rattle.store_model.specs.declared.fault.Fault.{Fault}
use Rattle.store_model.specs.declared.fault.Fault.TheVariants as faults
use Rattle.wal_record.specs.declared.entry.Entry.TheVariants.{Rec}
use Rattle.wal_record.specs.declared.record.Record.{Record}
use Rattle.page_ops.specs.Gains.{Gains}
use Rattle.page_ops.specs.Names.{LedgerName}
use Rattle.page_ops.specs.Seeing.{Known}

-- a record of this kind was entered with this LSN, and nothing else was by the call
abbrev pub GainsMark : (A : Type 0) → (A → Record) → (List Record → Type 0) → LedgerName → LedgerName → ℕ → Known → Known → Type 0
GainsMark A mark opens entries sessions lsn old new = (a : A) × Gains opens entries sessions (Rec lsn (mark a) ∷ []) old new

-- Where it is done, that is so. Refused for want of memory, nothing was entered; where the log disk failed, a record was; and
-- where the life had ended, maybe one was.
abbrev pub TakesMark : (A : Type 0) → (A → Record) → (List Record → Type 0) → LedgerName → LedgerName → Result ℕ Fault → Known → Known → Type 0
TakesMark A mark opens entries sessions (Ok lsn) old new = GainsMark A mark opens entries sessions lsn old new
TakesMark A mark opens entries sessions (Err faults.Memory) old new = Gains opens entries sessions [] old new
TakesMark A mark opens entries sessions (Err faults.LogFault) old new = (lsn : ℕ) × GainsMark A mark opens entries sessions lsn old new
TakesMark A mark opens entries sessions (Err fault) old new = Gains opens entries sessions [] old new ⊎ ((lsn : ℕ) × GainsMark A mark opens entries sessions lsn old new)

-- want of memory, a failing log disk, an ended life
abbrev pub FailsToMark : Fault → Type 0
FailsToMark faults.Memory = Unit {0}
FailsToMark faults.LogFault = Unit {0}
FailsToMark (faults.Ended at) = Unit {0}
FailsToMark fault = ⊥
