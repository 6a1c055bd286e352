-- What undoing a transaction enters, and what it leaves.
use Rattle.std.specs.Prelude.{◌≡◌, ℕ, List, [], ◌∷◌, ◌++◌, length, filter, Result, Ok, Err, Bool, true, ◌==◌, IsTrue}
use Rattle.std.specs.List.{list_all}
use Rattle.front.specs.Seen.{PassSeen}
use Rattle.store_model.specs.declared.fault.Fault.{Fault}
use Rattle.wal_record.specs.History.{life_log}
use Rattle.wal_record.specs.OpenWrites.{open_writes}
use Rattle.wal_record.specs.declared.record.Undo.{Undo}
use Rattle.wal_record.specs.declared.record.Record.{Record}
use Rattle.wal_record.specs.declared.record.Record.TheVariants as kinds
use Rattle.wal_record.specs.declared.entry.Entry.{Entry}
use Rattle.wal_record.specs.declared.entry.Entry.TheVariants.{Rec}
use Rattle.claim_laws.specs.Losers.{undoes}
use Rattle.page_ops.specs.Claims.{no_claims}
use Rattle.page_ops.specs.Desks.{Desk, KeepsFaults}
use Rattle.page_ops.specs.Gains.{Gains}
use Rattle.page_ops.specs.Names.{LedgerName}
use Rattle.page_ops.specs.Seeing.{Account, Known, is_upkeep, known}
use Rattle.page_ops.specs.declared.outcome.Entered.{Entered}
use Rattle.page_ops.specs.declared.outcome.Entered.TheVariants.{At, NoRoom, Late}
use Rattle.rollback.specs.declared.undid.Undid.{Undid}
use Rattle.rollback.specs.declared.undid.Undid.TheVariants as undid

-- Undos of the transaction, purges and splits, and what the upkeep of pages enters
abbrev pub rolls_back : ℕ → Entry → Bool
rolls_back tx (Rec lsn (kinds.Undo u)) = u.tx == tx
rolls_back tx (Rec lsn (kinds.Purge g)) = true
rolls_back tx (Rec lsn (kinds.Split s)) = true
rolls_back tx e = is_upkeep e

-- a thread's way to the pages, what its journal's object knows, and what its pass has seen
pub record Standing : Type 0 where
  pub desk : Desk
  pub account : Account
  pub seen : PassSeen Entry

abbrev pub standing : Desk → Account → PassSeen Entry → Standing
standing desk account seen = record { desk = desk; account = account; seen = seen }

abbrev pub known_by : Standing → Known
known_by x = known x.account x.seen no_claims

-- Calls entered these entries of their own, so many of them Undos of the transaction, perhaps with others between; and
-- faults don't fall.
pub record Rolls (opens : List Record → Type 0) (ledger sessions : LedgerName) (tx undos : ℕ) (x y : Standing) : Type 0 where
  pub own : List Entry
  pub gains : Gains opens ledger sessions own (known_by x) (known_by y)
  pub kinds : IsTrue (list_all (rolls_back tx) own)
  pub count : length (filter (undoes tx) own) ≡ undos
  pub faults : KeepsFaults x.desk.faults y.desk.faults

-- the history ends with an Undo of the transaction, which stands here
pub record IsUndoAt (t : ℕ) (h : List Entry) (pos : ℕ) : Type 0 where
  pub before : List Entry
  pub lsn : ℕ
  pub undo : Undo
  pub is : h ≡ before ++ Rec lsn (kinds.Undo undo) ∷ []
  pub tx : undo.tx ≡ t
  pub place : pos ≡ length h

-- a write of the transaction was undone, or it has no open one
abbrev pub HasUndone : (List Record → Type 0) → List Entry → ℕ → Undid → Type 0
HasUndone opens h tx undid.Nothing = (opening : List Record) → opens opening → open_writes (life_log opening h) tx ≡ []
HasUndone opens h tx (undid.Undone pos) = IsUndoAt tx h pos

-- how many writes were undone
abbrev pub undone_by : Result Undid Fault → ℕ
undone_by (Ok undid.Nothing) = 0
undone_by (Ok (undid.Undone pos)) = 1
undone_by (Err fault) = 0

abbrev pub undone_in : Result Entered Fault → ℕ
undone_in (Ok (At pos)) = 1
undone_in (Ok NoRoom) = 0
undone_in (Ok (Late pos)) = 0
undone_in (Err fault) = 0

-- where it was entered
abbrev pub IfAt : Result Entered Fault → (ℕ → Type 0) → Type 0
IfAt (Ok (At pos)) fact = fact pos
IfAt _ fact = Unit {0}
