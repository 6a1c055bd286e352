-- Who enters all of a life's history alone.
use Rattle.std.specs.Prelude.{◌≡◌, List, length}
use Rattle.wal_record.specs.declared.record.Record.{Record}
use Rattle.wal_record.specs.declared.entry.Entry.{Entry}
use Rattle.page_ops.specs.Names.{LedgerName}
use Rattle.page_ops.specs.Seeing.{Account, IsConsistent}

-- All parts of the ledger of entries are here, and this history has all entries that were counted: so nobody else has
-- entered any, and nobody else will. The history is legal and its log sound, whatever log the life began with.
pub record IsAlone (opens : List Record → Type 0) (ledger : LedgerName) (account : Account) (h : List Entry) : Type 0 where
  pub parts : account.entries.parts ≡ ledger.parts
  pub counted : length h ≡ account.entries.amount
  pub consistent : IsConsistent opens h
