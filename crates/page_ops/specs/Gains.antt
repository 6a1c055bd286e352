-- What several calls enter, one after the other.
use Rattle.std.specs.Prelude.{◌≡◌, ◌+◌, ◌≤◌, List, ◌++◌, length, Bool, IsTrue}
use Rattle.std.specs.List.{list_all}
use Rattle.wal_record.specs.declared.record.Record.{Record}
use Rattle.wal_record.specs.declared.entry.Entry.{Entry}
use Rattle.page_ops.specs.Names.{LedgerName}
use Rattle.page_ops.specs.Seeing.{Account, Known, Keeps, HasTotals, IsAmong, IsConsistent}

-- They added these entries of their own in this order, perhaps with others between, and the last of them saw the whole
-- history.
pub record Gains (opens : List Record → Type 0) (entries sessions : LedgerName) (own : List Entry) (old new : Known) : Type 0 where
  pub gained : List Entry
  pub is : new.log ≡ old.log ++ gained
  pub among : IsAmong own gained
  pub consistent : IsConsistent opens new.log
  pub durable : old.durable ≤ new.durable
  pub keeps : Keeps old.account new.account
  pub counted : new.account.entries.amount ≡ old.account.entries.amount + length own
  pub totals : HasTotals entries sessions new.account new.log

-- They added entries of their own of this kind, none of them a session's, perhaps with others between. Nothing may have
-- been entered, and nothing been seen.
pub record Goes (kind : Entry → Bool) (old new : Known) : Type 0 where
  pub gained : List Entry
  pub is : new.log ≡ old.log ++ gained
  pub own : List Entry
  pub among : IsAmong own gained
  pub kinds : IsTrue (list_all kind own)
  pub durable : old.durable ≤ new.durable
  pub keeps : Keeps old.account new.account
  pub counted : new.account.entries.amount ≡ old.account.entries.amount + length own
  pub sessions_counted : new.account.session_entries.amount ≡ old.account.session_entries.amount

-- the last call saw the whole history
pub record IsSettled (opens : List Record → Type 0) (entries sessions : LedgerName) (x : Account) (h : List Entry) : Type 0 where
  pub consistent : IsConsistent opens h
  pub totals : HasTotals entries sessions x h
