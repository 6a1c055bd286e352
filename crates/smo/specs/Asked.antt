-- What came of a group that was made and handed to the journal.
use Rattle.std.specs.Prelude.{◌≡◌, List, [], Result, Ok, Err}
use Rattle.store_model.specs.declared.fault.Fault.{Fault}
use Rattle.store_model.specs.declared.fault.Fault.TheVariants as faults
use Rattle.store_model.specs.declared.fault.Memory.{Memory}
use Rattle.wal_record.specs.declared.record.Record.{Record}
use Rattle.wal_record.specs.declared.entry.Entry.{Entry}
use Rattle.page_ops.specs.Asking.{IsAskable, WasTimely}
use Rattle.page_ops.specs.Claims.{Claims}
use Rattle.page_ops.specs.Groups.{Each, IsGroup, HasRights}
use Rattle.page_ops.specs.Names.{LedgerName}
use Rattle.page_ops.specs.Outcomes.{EntersGroup, IsFilledIn, OnEntered}
use Rattle.page_ops.specs.Seeing.{IsMoment, Known, Enters}
use Rattle.page_ops.specs.declared.group.Group.{Group}
use Rattle.page_ops.specs.declared.outcome.Entered.{Entered}

-- the conditions of entering the group at any moment since the history was seen
pub record MayAsk (opens : List Record → Type 0) (seen : List Entry) (x : Claims) (g : Group) : Type 0 where
  pub group : IsGroup g
  pub rights : HasRights opens seen x g
  pub askable : (opening : List Record) (h : List Entry) → opens opening → IsMoment opens seen x h → IsAskable opening h x.a g
  pub timely : (opening : List Record) → opens opening → Each (WasTimely opening seen) g.recs

-- the group was handed in, and the history and the rights are as the answer says
pub record Asked (opens : List Record → Type 0) (ledger sessions : LedgerName) (g : Group) (result : Result Entered Fault) (old new : Known) : Type 0 where
  pub now : Group
  pub enters : EntersGroup opens ledger sessions g now result old new
  pub filled : OnEntered result (IsFilledIn g now old.claims new.claims)

-- the same of a group for which there may have been no memory: then nothing is handed in
abbrev pub AskedIfMade : (List Record → Type 0) → LedgerName → LedgerName → Result Group Memory → Result Entered Fault → Known → Known → Type 0
AskedIfMade opens ledger sessions (Ok g) result old new = Asked opens ledger sessions g result old new
AskedIfMade opens ledger sessions (Err memory) result old new = (result ≡ Err faults.Memory) × Enters opens ledger sessions old [] new
