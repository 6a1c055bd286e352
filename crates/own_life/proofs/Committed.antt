-- What a commit enters, as far as a life tells it.
use Rattle.std.proofs.Common.{ℕ, List, Result, Ok, Err, inl, inr}
use Rattle.front.specs.Seen.{PassSeen}
use Rattle.store_model.specs.declared.fault.Fault.{Fault}
use Rattle.store_model.specs.declared.fault.Fault.TheVariants as faults
use Rattle.wal_record.specs.declared.entry.Entry.{Entry}
use Rattle.wal_record.specs.declared.record.Record.{Record}
use Rattle.page_ops.specs.Seeing.{Account}
use Rattle.page_ops.specs.declared.outcome.Committed.{Committed}
use Rattle.store_life.specs.Turns as turns
use Rattle.own_life.specs.State.{IsCommitted, MayBeDone}

maybe : (tx : ℕ) (account : Account) (h h' : List Entry) → turns.MayBeDone tx account h h' → MayBeDone tx h h'
maybe tx account h h' (inl none) = inl none
maybe tx account h h' (inr some) = inr (some.1, some.2, some.3)

pub committed : (opens : List Record → Type 0) (session tx : ℕ) (account : Account) (r : Result Committed Fault) (h : List Entry) (now : PassSeen Entry) → turns.IsCommitted opens session tx account r h now → IsCommitted opens session tx r h now.log
committed opens session tx account (Ok answer) h now d = record { own = d.own; made = d.made; added = d.added; place = d.place; number = d.number }
committed opens session tx account (Err faults.LogFault) h now m = maybe tx account h now.log m
committed opens session tx account (Err (faults.Ended at)) h now m = maybe tx account h now.log m
committed opens session tx account (Err _) h now none = inl none
