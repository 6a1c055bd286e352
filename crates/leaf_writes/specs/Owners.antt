-- The right to the session of a change, as it comes back, and where the entries of its group stand.
use Rattle.std.specs.Prelude.{◌≡◌, List, ◌++◌, Option, IfSome, Result, Ok, Err}
use Rattle.std.specs.Option.{option_map}
use Rattle.books.specs.Rights.{SessionClaim}
use Rattle.store_model.specs.declared.fault.Fault.{Fault}
use Rattle.store_model.specs.declared.fault.Fault.TheVariants as faults
use Rattle.store_model.specs.declared.reply.Outcome.TheVariants as outcomes
use Rattle.wal_record.specs.declared.entry.Entry.{Entry}
use Rattle.page_ops.specs.Claims.{SessionAgrees}
use Rattle.page_ops.specs.Groups.{declined_entries}
use Rattle.page_ops.specs.declared.outcome.Entered.{Entered}
use Rattle.page_ops.specs.declared.outcome.Entered.TheVariants.{At}
use Rattle.leaf_writes.specs.Changes.{said_by}
use Rattle.leaf_writes.specs.declared.change.Change.{Change}

-- where nothing of a session is entered
abbrev pub UnlessTold : Result Entered Fault → Type 0 → Type 0
UnlessTold (Ok (At pos)) fact = Unit {0}
UnlessTold (Err (faults.Full pages pending at)) fact = Unit {0}
UnlessTold _ fact = fact

-- it is to the same session, whose transaction is the same; and as it was where nothing of the session is entered
pub record KeepsOwner (result : Result Entered Fault) (old new : Option SessionClaim) : Type 0 where
  pub session : option_map (λ (s : SessionClaim). s.session) new ≡ option_map (λ (s : SessionClaim). s.session) old
  pub tx : option_map (λ (s : SessionClaim). s.tx) new ≡ option_map (λ (s : SessionClaim). s.tx) old
  pub same : UnlessTold result (new ≡ old)

-- the history ends with these entries
abbrev pub EndsWith : List Entry → List Entry → Type 0
EndsWith es h = (before : List Entry) × (h ≡ before ++ es)

-- there is no room for the change: the history ends with its request declined, and the right to the session agrees
abbrev pub IsDeclined : Change → Option SessionClaim → Option SessionClaim → List Entry → Fault → Type 0
IsDeclined c owner owner_now h (faults.Full pages pending at) = EndsWith (declined_entries (said_by c.how c.key c.new owner) (outcomes.Full pages pending)) h × IfSome owner_now (SessionAgrees h)
IsDeclined c owner owner_now h fault = Unit {0}
