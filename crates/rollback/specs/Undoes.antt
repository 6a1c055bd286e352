-- The undo of a write.
use Rattle.std.specs.Prelude.{◌≡◌, ℕ, List, IsTrue}
use Rattle.wal_record.specs.History.{life_log}
use Rattle.wal_record.specs.OpenWrites.{open_writes}
use Rattle.wal_record.specs.Rules.{is_lsn_or_none}
use Rattle.wal_record.specs.Sound.{TakesBack, UndoRule}
use Rattle.wal_record.specs.declared.record.Record.{Record}
use Rattle.wal_record.specs.declared.entry.Entry.{Entry}
use Rattle.leaf_writes.specs.MayChange.{undo_of}
use Rattle.leaf_writes.specs.declared.change.Change.{Change}
use Rattle.leaf_writes.specs.declared.change.How.TheVariants as hows

-- the change is the undo of this write of the transaction
pub record TakesBackWrite (t : ℕ) (write : Record) (c : Change) : Type 0 where
  pub tx : c.tx ≡ t
  pub next : ℕ
  pub how : c.how ≡ hows.Undo next
  pub place : IsTrue (is_lsn_or_none next)
  pub takes : TakesBack (undo_of t c.key c.new next) write

-- it is the undo of its transaction's last open write after this history
pub record TakesBackLast (opens : List Record → Type 0) (h : List Entry) (c : Change) : Type 0 where
  pub next : ℕ
  pub how : c.how ≡ hows.Undo next
  pub place : IsTrue (is_lsn_or_none next)
  pub last : (opening : List Record) → opens opening → UndoRule (open_writes (life_log opening h) c.tx) (undo_of c.tx c.key c.new next)
