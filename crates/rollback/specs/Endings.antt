-- The End of a transaction that is undone.
use Rattle.std.specs.Prelude.{◌≡◌, ℕ, List, [], ◌∷◌, ◌++◌, length, Option, None, Result, Ok, IfSome, Bool, true, false, ◌==◌, IsTrue}
use Rattle.std.specs.List.{list_all, list_any}
use Rattle.books.specs.Rights.{SessionClaim}
use Rattle.store_model.specs.declared.fault.Fault.{Fault}
use Rattle.wal_record.specs.Chains.{finishes}
use Rattle.wal_record.specs.History.{life_log}
use Rattle.wal_record.specs.declared.record.Record.{Record}
use Rattle.wal_record.specs.declared.record.Record.TheVariants as kinds
use Rattle.wal_record.specs.declared.entry.Entry.{Entry}
use Rattle.wal_record.specs.declared.entry.Entry.TheVariants.{Rec}
use Rattle.page_ops.specs.Claims.{SessionAgrees}
use Rattle.page_ops.specs.Desks.{KeepsFaults}
use Rattle.page_ops.specs.Gains.{Gains}
use Rattle.page_ops.specs.Names.{LedgerName}
use Rattle.page_ops.specs.Seeing.{Known}
use Rattle.page_ops.specs.declared.group.Group.{Group}
use Rattle.page_ops.specs.declared.outcome.Entered.{Entered}
use Rattle.page_ops.specs.declared.outcome.Entered.TheVariants.{At, NoRoom, Late}
use Rattle.rollback.specs.Rolls.{Standing, known_by, rolls_back}

abbrev pub end_by : ℕ → ℕ → Record
end_by tx prev = kinds.End (record { tx = tx; prev = prev })

-- its group, with what the journal fills in left open
abbrev pub end_of : ℕ → Group
end_of tx = record { recs = end_by tx 0 ∷ []; said = None; room = false; lsn = 0 }

-- the call entered the End, or nothing
abbrev pub GainsEnd : (List Record → Type 0) → LedgerName → LedgerName → ℕ → Result Entered Fault → Known → Known → Type 0
GainsEnd opens ledger sessions tx (Ok (At pos)) old new = (lsn : ℕ) × (prev : ℕ) × Gains opens ledger sessions (Rec lsn (end_by tx prev) ∷ []) old new
GainsEnd opens ledger sessions tx _ old new = Gains opens ledger sessions [] old new

-- the history ends with the End of the transaction, which stands here
pub record IsEndAt (tx : ℕ) (h : List Entry) (pos : ℕ) : Type 0 where
  pub before : List Entry
  pub lsn : ℕ
  pub prev : ℕ
  pub is : h ≡ before ++ Rec lsn (end_by tx prev) ∷ []
  pub place : pos ≡ length h

-- the session has no transaction
abbrev pub IsFreed : List Entry → Option SessionClaim → Type 0
IsFreed h owner = IfSome owner (λ (s : SessionClaim). (s.tx ≡ 0) × SessionAgrees h s)

-- it has ended, by this call or before
abbrev pub HasEnded : (List Record → Type 0) → List Entry → ℕ → Option SessionClaim → Entered → Type 0
HasEnded opens h tx owner (At pos) = IsEndAt tx h pos × IsFreed h owner
HasEnded opens h tx owner NoRoom = ⊥
HasEnded opens h tx owner (Late pos) = (opening : List Record) → opens opening → list_any (finishes tx) (life_log opening h) ≡ true

-- where the End isn't entered the right is as it was
abbrev pub KeepsUnended : Result Entered Fault → Option SessionClaim → Option SessionClaim → Type 0
KeepsUnended (Ok (At pos)) old new = Unit {0}
KeepsUnended _ old new = new ≡ old

-- where it has not ended by this call
abbrev pub UnlessEnded : Result Entered Fault → Type 0 → Type 0
UnlessEnded (Ok (At pos)) fact = Unit {0}
UnlessEnded _ fact = fact

-- what undoing the whole transaction enters: its End too
abbrev pub rolls_over : ℕ → Entry → Bool
rolls_over tx (Rec lsn (kinds.End e)) = e.tx == tx
rolls_over tx e = rolls_back tx e

-- calls entered these entries of their own, perhaps with others between; and faults don't fall
pub record RollsOver (opens : List Record → Type 0) (ledger sessions : LedgerName) (tx : ℕ) (x y : Standing) : Type 0 where
  pub own : List Entry
  pub gains : Gains opens ledger sessions own (known_by x) (known_by y)
  pub kinds : IsTrue (list_all (rolls_over tx) own)
  pub faults : KeepsFaults x.desk.faults y.desk.faults
