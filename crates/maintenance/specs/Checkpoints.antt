-- What taking a Checkpoint enters.
use Rattle.std.specs.Prelude.{ℕ, List, [], ◌∷◌, None, false, Result}
use Rattle.store_model.specs.declared.fault.Fault.{Fault}
use Rattle.wal_record.specs.declared.record.Checkpoint.{Checkpoint}
use Rattle.wal_record.specs.declared.record.Record.{Record}
use Rattle.wal_record.specs.declared.record.Record.TheVariants as kinds
use Rattle.page_ops.specs.Groups.{no_checkpoint}
use Rattle.page_ops.specs.Names.{LedgerName}
use Rattle.page_ops.specs.Seeing.{Known}
use Rattle.page_ops.specs.declared.group.Group.{Group}
use Rattle.maintenance.specs.Marks.{TakesMark}

-- the group that asks for a Checkpoint; the journal fills in what it lists
abbrev pub checkpoint_group : Group
checkpoint_group = record { recs = kinds.Checkpoint no_checkpoint ∷ []; said = None; room = false; lsn = 0 }

abbrev pub TakesCheckpoint : (List Record → Type 0) → LedgerName → LedgerName → Result ℕ Fault → Known → Known → Type 0
TakesCheckpoint = TakesMark Checkpoint kinds.Checkpoint
