-- A page's record in the object of an archive run.
use Rattle.std.specs.Prelude.{◌≡◌, ℕ, List, ◌∷◌, Result, Ok, Err}
use Rattle.store_model.specs.declared.fault.Fault.{Fault}
use Rattle.store_model.specs.declared.fault.Fault.TheVariants as faults
use Rattle.wal_record.specs.declared.record.Record.{Record}
use Rattle.log_archive.specs.Items.{Chunk, from_lsn, items_on}
use Rattle.log_archive.specs.Run.{IsRun}
use Rattle.log_archive.specs.declared.item.Numbered.{Numbered}

-- these are the bytes of the run, and of the page's records from this LSN on the first one is this, and has that LSN
pub record HasRecord (run page lsn : ℕ) (r : Record) (bytes : List ℕ) : Type 0 where
  pub first : ℕ
  pub last : ℕ
  pub chunks : List Chunk
  pub is : IsRun run first last chunks bytes
  pub behind : List Numbered
  pub items : from_lsn lsn (items_on page chunks) ≡ record { lsn = lsn; rec = r } ∷ behind

-- that record, but for want of memory
abbrev pub GivesRecord : Record → Result Record Fault → Type 0
GivesRecord r (Ok x) = x ≡ r
GivesRecord r (Err faults.Memory) = Unit {0}
GivesRecord r (Err fault) = ⊥

-- want of memory, or a bad object
abbrev pub FailsToTake : Fault → Type 0
FailsToTake faults.Memory = Unit {0}
FailsToTake (faults.VaultBad object byte) = Unit {0}
FailsToTake fault = ⊥
