-- Why records aren't read.
use Rattle.std.specs.Prelude.{◌≡◌, ℕ, ◌<◌, List, Option, Some, is_some, IsTrue, Result, Ok, Err}
use Rattle.store_model.specs.declared.fault.Fault.{Fault}
use Rattle.store_model.specs.declared.fault.Fault.TheVariants as faults
use Rattle.wal_record.specs.declared.record.Record.{Record}

-- no log is known by which records are answered
abbrev pub IsUnknown : (List Record → Type 0) → Type 0
IsUnknown answers = (log : List Record) → answers log → ⊥

-- Memory ran out, the log disk failed in this call, which ended the life, or the life had ended. A block is bad only
-- where no log is known.
abbrev pub FailsToRead : Type 0 → ℕ → ℕ → Option ℕ → Fault → Type 0
FailsToRead unknown before now ended faults.Memory = Unit {0}
FailsToRead unknown before now ended faults.LogFault = (before < now) × IsTrue (is_some ended)
FailsToRead unknown before now ended (faults.Ended at) = ended ≡ Some at
FailsToRead unknown before now ended (faults.LogBad block byte) = unknown
FailsToRead unknown before now ended fault = ⊥

-- where the life was known to have ended, the call says so, or it wants memory
abbrev pub SaysEnd : {T : Type 0} → ℕ → Result T Fault → Type 0
SaysEnd at (Ok x) = ⊥
SaysEnd at (Err faults.Memory) = Unit {0}
SaysEnd at (Err fault) = fault ≡ faults.Ended at
