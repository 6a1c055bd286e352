-- What the calls over archive runs answer.
use Rattle.std.specs.Prelude.{◌≡◌, ◌⊎◌, ℕ, ◌+◌, ◌-◌, ◌<◌, List, [], ◌∷◌, ◌++◌, length, Option, Result, Ok, Err, ⊤, ◌^◌}
use Rattle.std.specs.List.{All}
use Rattle.media.specs.Cause.{Rose}
use Rattle.media.specs.Objects.{Stored}
use Rattle.store_model.specs.declared.fault.Fault.{Fault}
use Rattle.store_model.specs.declared.fault.Fault.TheVariants as faults
use Rattle.store_model.specs.declared.object.ObjectName.{ObjectName}
use Rattle.wal_record.specs.Rules.{HasSpelling}
use Rattle.wal_record.specs.declared.record.Record.{Record}
use Rattle.vault_objects.specs.Stored.{MayStore, Stores}
use Rattle.log_archive.specs.Items.{Chunk, chunks_of, from_lsn, items_on, numbered, part}
use Rattle.log_archive.specs.Reads.{FailsToRead}
use Rattle.log_archive.specs.Reading.{run_at}
use Rattle.log_archive.specs.Run.{IsRun, chunks_bytes, run_bytes, run_name}
use Rattle.log_archive.specs.declared.directory.Entry.{Entry}
use Rattle.log_archive.specs.declared.directory.Outline.{Outline}
use Rattle.log_archive.specs.declared.item.Numbered.{Numbered}
use Rattle.log_archive.specs.declared.layout.TheConstants.{PAGES_AT}

-- The bytes are the object of a run of the page records of this range of LSNs: the records of each log by which they were
-- answered.
pub record SpellsRun (answers : List Record → Type 0) (run first last : ℕ) (bytes : List ℕ) : Type 0 where
  pub records : List Record
  pub count : first + length records ≡ last + 1
  pub spelled : All HasSpelling records
  pub told : (log : List Record) → answers log → records ≡ part first (last + 1) log
  pub is : bytes ≡ run_bytes run first last (chunks_of (numbered first records))
  pub short : length bytes < 2 ^ 32

-- The run's object has the page records of this range of LSNs, and is synced: the records of each log by which they were
-- answered.
pub record StoresRun (answers : List Record → Type 0) (run first last : ℕ) (old new : ObjectName → Stored) : Type 0 where
  pub records : List Record
  pub count : first + length records ≡ last + 1
  pub spelled : All HasSpelling records
  pub told : (log : List Record) → answers log → records ≡ part first (last + 1) log
  pub stored : Stores (run_name run) (run_bytes run first last (chunks_of (numbered first records))) old new
  pub short : length (run_bytes run first last (chunks_of (numbered first records))) < 2 ^ 32

-- the run's object stays, or is an unsynced one, or a synced one; each other object stays or is synced
abbrev pub MayMake : ℕ → (ObjectName → Stored) → (ObjectName → Stored) → Type 0
MayMake run old new = (bytes : List ℕ) × MayStore (run_name run) bytes old new

-- the log or the vault refuses
abbrev pub FailsToMake : Type 0 → ℕ → ℕ → Option ℕ → ℕ → ℕ → Fault → Type 0
FailsToMake unknown log_before log_now ended before now faults.VaultFault = Rose before now
FailsToMake unknown log_before log_now ended before now fault = FailsToRead unknown log_before log_now ended fault

-- the first field of the run's object that is cut or breaks its rule begins at this byte
abbrev pub IsFirstFault : ℕ → List ℕ → ℕ → Type 0
IsFirstFault run bytes byte = (left : ℕ) × (run_at run bytes ≡ Err left) × (byte ≡ length bytes - left)

-- the object has no fault, and no item of the page from this LSN on; then its number of pages is named
pub record LacksItems (run page from : ℕ) (bytes : List ℕ) (byte : ℕ) : Type 0 where
  pub outline : Outline
  pub reads : run_at run bytes ≡ Ok outline
  pub none : (first last : ℕ) (chunks : List Chunk) → IsRun run first last chunks bytes → from_lsn from (items_on page chunks) ≡ []
  pub place : byte ≡ PAGES_AT

-- where the vault tells what it holds, the run's object has its first fault at this byte
pub record IsBad (tells : Type 0) (run : ℕ) (bytes : List ℕ) (object : ObjectName) (byte : ℕ) : Type 0 where
  pub named : object ≡ run_name run
  pub cause : tells → IsFirstFault run bytes byte

-- or lacks what is asked of it
pub record IsBadFor (tells : Type 0) (run page from : ℕ) (bytes : List ℕ) (object : ObjectName) (byte : ℕ) : Type 0 where
  pub named : object ≡ run_name run
  pub cause : tells → IsFirstFault run bytes byte ⊎ LacksItems run page from bytes byte

-- why items aren't found in the bytes of an object
abbrev pub FailsToFind : (ObjectName → ℕ → Type 0) → Fault → Type 0
FailsToFind bad faults.Memory = Unit {0}
FailsToFind bad (faults.VaultBad object byte) = bad object byte
FailsToFind bad fault = ⊥

abbrev pub IsEntryOf : Entry → List Entry → Type 0
IsEntryOf e [] = ⊥
IsEntryOf e (d ∷ ds) = (e ≡ d) ⊎ IsEntryOf e ds

-- a refusal of a call that is asked for these items: for want of memory or a fault of the vault, or since there are none
abbrev pub HasNone : List Numbered → Fault → Type 0
HasNone items faults.Memory = Unit {0}
HasNone items faults.VaultFault = Unit {0}
HasNone items fault = items ≡ []

-- the items were appended
abbrev pub GivesItems : List Numbered → List Numbered → List Numbered → Result ⊤ Fault → Type 0
GivesItems old new items (Ok u) = new ≡ old ++ items
GivesItems old new items (Err fault) = HasNone items fault

-- the bytes of these items, but for want of memory and a fault of the vault
abbrev pub GivesSize : List Chunk → Result ℕ Fault → Type 0
GivesSize chunks (Ok n) = n ≡ length (chunks_bytes chunks)
GivesSize chunks (Err faults.Memory) = Unit {0}
GivesSize chunks (Err faults.VaultFault) = Unit {0}
GivesSize chunks (Err fault) = ⊥
