-- What decode answers, in the words of wal_record's first-fault reading.
use Rattle.std.specs.Prelude.{◌≡◌, ℕ, ◌+◌, List, length, Result, Ok, Err}
use Rattle.wal_record.specs.declared.record.Record.{Record}
use Rattle.wal_record.specs.Spelling.{spelling}
use Rattle.wal_record.specs.Reading.{Read}
use Rattle.record_codec.specs.declared.fault.RecordFault.{RecordFault}
use Rattle.record_codec.specs.declared.fault.RecordFault.TheVariants as faults

-- the answer about so many bytes is what reading them gives, unless memory ran out: the record and its length, or where
-- the first field begins that is cut or breaks its rule
abbrev pub Tells : Result (Record × ℕ) RecordFault → Read Record → ℕ → Type 0
Tells (Ok x) read len = (rest : List ℕ) × (read ≡ Ok (x.0, rest)) × (x.1 + length rest ≡ len)
Tells (Err faults.Memory) read len = Unit {0}
Tells (Err (faults.Bad byte)) read len = (left : ℕ) × (read ≡ Err left) × (byte + left ≡ len)

-- the answer is this record and its length, unless memory ran out
abbrev pub IsFound : Result (Record × ℕ) RecordFault → Record → Type 0
IsFound (Ok x) r = (x.0 ≡ r) × (x.1 ≡ length (spelling r))
IsFound (Err faults.Memory) r = Unit {0}
IsFound (Err (faults.Bad byte)) r = ⊥
