-- What is entered where the data device is lost.
use Rattle.std.specs.Prelude.{ℕ, List, [], ◌∷◌, None, false, Result}
use Rattle.store_model.specs.declared.fault.Fault.{Fault}
use Rattle.wal_record.specs.declared.record.Lost.{Lost}
use Rattle.wal_record.specs.declared.record.Record.{Record}
use Rattle.wal_record.specs.declared.record.Record.TheVariants as kinds
use Rattle.page_ops.specs.Names.{LedgerName}
use Rattle.page_ops.specs.Seeing.{Known}
use Rattle.page_ops.specs.declared.group.Group.{Group}
use Rattle.maintenance.specs.Marks.{TakesMark}

-- the group that says so; the journal fills in how many pages there are
abbrev pub loss_group : Group
loss_group = record { recs = kinds.Lost (record { pages = 0 }) ∷ []; said = None; room = false; lsn = 0 }

abbrev pub TakesLoss : (List Record → Type 0) → LedgerName → LedgerName → Result ℕ Fault → Known → Known → Type 0
TakesLoss = TakesMark Lost kinds.Lost
