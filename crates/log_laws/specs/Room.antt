-- How a record changes the number of pending writes.
use Rattle.std.specs.Prelude.{◌≡◌, ◌+◌, List, [], ◌∷◌, ◌++◌, length}
use Rattle.wal_record.specs.Chains.{tx_of}
use Rattle.wal_record.specs.OpenWrites.{open_writes, pending}
use Rattle.wal_record.specs.Sound.{IsLawful}
use Rattle.wal_record.specs.declared.record.Undo.{Undo}
use Rattle.wal_record.specs.declared.record.Record.{Record}
use Rattle.wal_record.specs.declared.record.Record.TheVariants as kinds

-- as it changes the open writes of the transaction that it names
pub record PendingLaw (log : List Record) (r : Record) : Type 0 where
  pub change : pending (log ++ r ∷ []) + length (open_writes log (tx_of r)) ≡ pending log + length (open_writes (log ++ r ∷ []) (tx_of r))

-- an undo makes room for one write, or one page
pub record UndoRoomLaw (log : List Record) (u : Undo) : Type 0 where
  pub less : IsLawful log (kinds.Undo u) → pending (log ++ kinds.Undo u ∷ []) + 1 ≡ pending log
