-- What a request enters and answers behind its lock.
use Rattle.std.specs.Prelude.{List, [], ◌++◌, Option, Some, None, Result, true, IsTrue}
use Rattle.std.specs.List.{list_all}
use Rattle.books.specs.Rights.{SessionClaim}
use Rattle.store_model.specs.declared.fault.Fault.{Fault}
use Rattle.store_model.specs.declared.request.Request.{Request}
use Rattle.wal_record.specs.Locks.{Held}
use Rattle.wal_record.specs.declared.record.Record.{Record}
use Rattle.wal_record.specs.declared.entry.Entry.{Entry}
use Rattle.page_ops.specs.Desks.{KeepsFaults}
use Rattle.page_ops.specs.Gains.{Gains}
use Rattle.page_ops.specs.Names.{LedgerName}
use Rattle.rollback.specs.Rolls.{Standing, known_by}
use Rattle.engine.specs.Answers.{AreLast, HasLocked, IsSaidAt}
use Rattle.engine.specs.Beside.{is_beside}
use Rattle.engine.specs.declared.answered.Answered.{Answered}

-- calls entered what keeps the tree and its pages up, and last these entries
pub record Completes (opens : List Record → Type 0) (ledger sessions : LedgerName) (s : SessionClaim) (request : Request) (result : Result Answered Fault) (x y : Standing) : Type 0 where
  pub behind : List Entry
  pub last : List Entry
  pub gains : Gains opens ledger sessions (behind ++ last) (known_by x) (known_by y)
  pub kept_up : IsTrue (list_all (is_beside []) behind)
  pub by : AreLast s request result true last
  pub faults : KeepsFaults x.desk.faults y.desk.faults

-- of a session whose right is there
abbrev pub CompletesFor : (List Record → Type 0) → LedgerName → LedgerName → Option SessionClaim → Request → Result Answered Fault → Standing → Standing → Type 0
CompletesFor opens ledger sessions None request result x y = ⊥
CompletesFor opens ledger sessions (Some s) request result x y = Completes opens ledger sessions s request result x y

abbrev pub OwnsLock : (List Record → Type 0) → List Entry → Held → Option SessionClaim → Type 0
OwnsLock opens h lock None = ⊥
OwnsLock opens h lock (Some s) = HasLocked opens h lock s

abbrev pub IsSaidFor : (List Record → Type 0) → Option SessionClaim → Request → List Entry → Answered → Type 0
IsSaidFor opens None request h a = ⊥
IsSaidFor opens (Some s) request h a = IsSaidAt opens s request h a
