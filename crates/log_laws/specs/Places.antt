-- Where open writes stand in the log.
use Rattle.std.specs.Prelude.{◌≡◌, ℕ, List, [], ◌∷◌, Some}
use Rattle.wal_record.specs.Chains.{record_with}
use Rattle.wal_record.specs.OpenWrites.{open_writes, open_list, key_of}
use Rattle.wal_record.specs.declared.record.OpenWrite.{OpenWrite}
use Rattle.wal_record.specs.declared.record.Record.{Record}

-- each item has the LSN and the key of the record at its place
abbrev pub AllPlaced : List Record → List OpenWrite → List Record → Type 0
AllPlaced log [] [] = Unit {0}
AllPlaced log (w ∷ ws) (r ∷ rs) = (record_with log w.lsn ≡ Some r) × (w.key ≡ key_of r) × AllPlaced log ws rs
AllPlaced log _ _ = ⊥

-- the list in short tells where each open write of the transaction stands
pub record PlacesLaw (log : List Record) (t : ℕ) : Type 0 where
  pub placed : AllPlaced log (open_list log t) (open_writes log t)
