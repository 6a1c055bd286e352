-- An operator on a key: what is known of the key's value, and where the operator gives none.
use Rattle.std.specs.Prelude.{◌≡◌, List, length, Option, Some, None}
use mathlib.Core.List.{IsPrefix}
use Rattle.books.specs.Rights.{SessionClaim}
use Rattle.store_model.specs.declared.fault.Fault.{Fault}
use Rattle.store_model.specs.declared.fault.Fault.TheVariants as faults
use Rattle.store_model.specs.declared.reply.Outcome.TheVariants as outcomes
use Rattle.store_model.specs.declared.request.Request.{Request}
use Rattle.wal_record.specs.Contents.{current}
use Rattle.wal_record.specs.History.{life_log}
use Rattle.wal_record.specs.Legal.{HasNoMeaning, MayDecline}
use Rattle.wal_record.specs.Locks.{Held}
use Rattle.wal_record.specs.declared.record.Record.{Record}
use Rattle.wal_record.specs.declared.entry.Entry.{Entry}
use Rattle.page_ops.specs.Claims.{session_alone}
use Rattle.page_ops.specs.Hands.{Hand}
use Rattle.page_ops.specs.Seeing.{IsConsistent, IsMoment}
use Rattle.foster_tree.specs.Nows.{IsNow}
use Rattle.engine.specs.Answers.{HasLocked}

-- the leaf in hand was its page's image at a moment that was seen, since the session's transaction took the lock
pub record IsReadLocked (opens : List Record → Type 0) (h : List Entry) (lock : Held) (leaf : Hand) (s : SessionClaim) : Type 0 where
  pub before : List Entry
  pub locked : HasLocked opens before lock s
  pub then : List Entry
  pub begins : IsPrefix before then
  pub now : IsNow opens then leaf
  pub consistent : IsConsistent opens then
  pub seen : IsPrefix then h

-- of a session whose right is there
abbrev pub IsReadBy : (List Record → Type 0) → List Entry → Held → Hand → Option SessionClaim → Type 0
IsReadBy opens h lock leaf None = ⊥
IsReadBy opens h lock leaf (Some s) = IsReadLocked opens h lock leaf s

-- after what was seen the request may be declined at any moment by the right to its session, since its operator gives no
-- value
abbrev pub MayRefuse : (List Record → Type 0) → List Entry → Option SessionClaim → Request → Type 0
MayRefuse opens seen None request = ⊥
MayRefuse opens seen (Some s) request = (opening : List Record) (h : List Entry) → opens opening → IsMoment opens seen (session_alone s) h → MayDecline opening h s.session s.tx request outcomes.OpRefused

-- the operator gives no value for the one that the key has, as the request is declined last
abbrev pub GivesNone : (List Record → Type 0) → Request → List Entry → Fault → Type 0
GivesNone opens request h (faults.OpRefused at) = (at ≡ length h) × ((opening : List Record) → opens opening → HasNoMeaning (current (life_log opening h)) request)
GivesNone opens request h fault = Unit {0}

-- an operator that gives no value
abbrev pub OrNone : Fault → Type 0
OrNone (faults.OpRefused at) = Unit {0}
OrNone fault = ⊥

-- or want of room
abbrev pub OrDeclined : Fault → Type 0
OrDeclined (faults.OpRefused at) = Unit {0}
OrDeclined (faults.Full pages pending at) = Unit {0}
OrDeclined fault = ⊥
