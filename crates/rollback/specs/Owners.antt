-- Who may undo the writes of a transaction.
use Rattle.std.specs.Prelude.{◌≡◌, ℕ, List, Option, Some, None, true}
use Rattle.std.specs.Option.{option_map}
use mathlib.Core.List.{IsPrefix}
use Rattle.books.specs.Rights.{SessionClaim}
use Rattle.wal_record.specs.History.{Live, phase}
use Rattle.wal_record.specs.OpenWrites.{is_loser}
use Rattle.wal_record.specs.declared.record.Record.{Record}
use Rattle.wal_record.specs.declared.entry.Entry.{Entry}
use Rattle.page_ops.specs.Claims.{Claims, SessionAgrees}

-- the right to a session, if there is one
abbrev pub claim_of : Option SessionClaim → Claims
claim_of s = record { a = None; b = None; c = None; s = s; m = None }

-- the session of the transaction, which is live: at a moment that was seen the right agreed
pub record IsOwnerOf (opens : List Record → Type 0) (seen : List Entry) (t : ℕ) (s : SessionClaim) : Type 0 where
  pub tx : s.tx ≡ t
  pub before : List Entry
  pub begins : IsPrefix before seen
  pub agrees : SessionAgrees before s
  pub live : (opening : List Record) → opens opening → phase before t ≡ Live

-- it is a loser of each log with which the life may have begun
abbrev pub IsLoserOf : (List Record → Type 0) → ℕ → Type 0
IsLoserOf opens tx = (opening : List Record) → opens opening → is_loser opening tx ≡ true

-- after what was seen the transaction may be undone, by this right or without one
abbrev pub MayRollBack : (List Record → Type 0) → List Entry → ℕ → Option SessionClaim → Type 0
MayRollBack opens seen tx None = IsLoserOf opens tx
MayRollBack opens seen tx (Some s) = IsOwnerOf opens seen tx s

-- the right that comes back is to the same session
abbrev pub IsSameSession : Option SessionClaim → Option SessionClaim → Type 0
IsSameSession old new = option_map (λ (s : SessionClaim). s.session) new ≡ option_map (λ (s : SessionClaim). s.session) old
