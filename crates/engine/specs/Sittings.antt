-- What a caller's token of a session holds.
use Rattle.std.specs.Prelude.{◌≡◌, ◌<◌, List, Option, Some, None, IsSome, IsTrue, Bool, false}
use Rattle.books.specs.Rights.{SessionClaim}
use Rattle.front.specs.Seen.{PassSeen}
use Rattle.wal_record.specs.Rules.{is_number}
use Rattle.wal_record.specs.declared.record.Record.{Record}
use Rattle.wal_record.specs.declared.entry.Entry.{Entry}
use Rattle.page_ops.specs.Claims.{session_alone}
use Rattle.page_ops.specs.Seeing.{Account, Known, known}
use Rattle.rollback.specs.Owners.{IsOwnerOf}

-- the claim of the right to the session, and what its pass has seen
pub record Sitting : Type 0 where
  pub claim : SessionClaim
  pub seen : PassSeen Entry

abbrev pub no_session : SessionClaim
no_session = record { session = 0; entries = 0; tx = 0 }

abbrev pub claim_or_none : Option SessionClaim → SessionClaim
claim_or_none None = no_session
claim_or_none (Some s) = s

-- its transaction, where it has one, is live
abbrev pub IsOwned : (List Record → Type 0) → List Entry → SessionClaim → Type 0
IsOwned opens seen s = 0 < s.tx → IsOwnerOf opens seen s.tx s

-- the transaction, where it has one, has a number in its range
abbrev pub HasNumber : SessionClaim → Type 0
HasNumber s = 0 < s.tx → IsTrue (is_number s.tx)

-- the right is there, and its transaction live unless a commit of it was refused
pub record IsSeated (opens : List Record → Type 0) (right : Option SessionClaim) (seen : List Entry) (undecided : Bool) : Type 0 where
  pub there : IsSome right
  pub number : HasNumber (claim_or_none right)
  pub owned : undecided ≡ false → IsOwned opens seen (claim_or_none right)

-- what is known through a journal's object and a session
abbrev pub known_by : Account → Sitting → Known
known_by account s = known account s.seen (session_alone s.claim)
