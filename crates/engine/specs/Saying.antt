-- The answer of a request alone, told from a leaf in hand.
use Rattle.std.specs.Prelude.{◌≡◌, ◌<◌, ℕ, List, [], ◌∷◌, Option, Some, None, Result, Ok, Err, OnErr, false}
use Rattle.std.specs.Option.{option_map}
use Rattle.books.specs.Rights.{SessionClaim}
use Rattle.store_model.specs.declared.fault.Fault.{Fault}
use Rattle.store_model.specs.declared.fault.Memory.{Memory}
use Rattle.store_model.specs.declared.reply.Reply.{Reply}
use Rattle.store_model.specs.declared.request.Request.{Request}
use Rattle.wal_record.specs.History.{Live, phase}
use Rattle.wal_record.specs.declared.record.Record.{Record}
use Rattle.wal_record.specs.declared.entry.Entry.{Entry}
use Rattle.wal_record.specs.declared.entry.Entry.TheVariants as entries
use Rattle.page_ops.specs.Asking.{IsAskable}
use Rattle.page_ops.specs.Hands.{Hand}
use Rattle.page_ops.specs.Claims.{Claims, SessionAgrees}
use Rattle.page_ops.specs.Names.{LedgerName}
use Rattle.page_ops.specs.Seeing.{Account, Enters, IsMoment, known}
use Rattle.front.specs.Seen.{PassSeen}
use Rattle.page_ops.specs.declared.group.Said.{Said}
use Rattle.page_ops.specs.declared.group.Group.{Group}
use Rattle.smo.specs.Settled.{claims_of}

abbrev pub said_of : Option SessionClaim → Request → Reply → Option Said
said_of None request reply = None
said_of (Some s) request reply = Some (record { session = s.session; tx = s.tx; request = request; reply = reply })

-- its group has no record
abbrev pub told_alone : Option SessionClaim → Request → Reply → Group
told_alone owner request reply = record { recs = []; said = said_of owner request reply; room = false; lsn = 0 }

-- after what was seen it may be entered at any moment, by the right to the leaf and that to the session
abbrev pub MaySay : (List Record → Type 0) → List Entry → Hand → Option SessionClaim → Request → Reply → Type 0
MaySay opens seen leaf owner request reply = (opening : List Record) (h : List Entry) → opens opening → IsMoment opens seen (claims_of leaf owner) h → IsAskable opening h leaf.right (told_alone owner request reply)

-- it was entered, or nothing was
abbrev pub said_entries : Result ℕ Fault → Option SessionClaim → Request → Result Reply Memory → List Entry
said_entries (Err fault) owner request told = []
said_entries (Ok pos) (Some s) request (Ok reply) = entries.Said s.session s.tx request reply ∷ []
said_entries (Ok pos) owner request told = []

-- the right is to the same session, whose transaction is the same; and as it was where nothing was entered
pub record KeepsHolder {T : Type 0} (result : Result T Fault) (old new : Option SessionClaim) : Type 0 where
  pub session : option_map (λ (s : SessionClaim). s.session) new ≡ option_map (λ (s : SessionClaim). s.session) old
  pub tx : option_map (λ (s : SessionClaim). s.tx) new ≡ option_map (λ (s : SessionClaim). s.tx) old
  pub same : OnErr result (new ≡ old)

-- the answer was entered by the rights that were handed in, and the right to the session comes back
pub record Says (opens : List Record → Type 0) (ledger sessions : LedgerName) (result : Result ℕ Fault) (request : Request) (told : Result Reply Memory) (leaf : Hand) (owner owner' : Option SessionClaim) (a a' : Account) (seen seen' : PassSeen Entry) : Type 0 where
  pub claims : Claims
  pub entered : Enters opens ledger sessions (known a seen (claims_of leaf owner)) (said_entries result owner request told) (known a' seen' claims)
  pub session : claims.s ≡ owner'

-- the right to the session agrees, and its transaction is live
pub record IsSpeaker (opens : List Record → Type 0) (seen : List Entry) (s : SessionClaim) : Type 0 where
  pub active : 0 < s.tx
  pub agrees : SessionAgrees seen s
  pub live : (opening : List Record) → opens opening → phase seen s.tx ≡ Live

-- of a session whose right is there
abbrev pub MaySpeak : (List Record → Type 0) → List Entry → Option SessionClaim → Type 0
MaySpeak opens seen None = ⊥
MaySpeak opens seen (Some s) = IsSpeaker opens seen s

-- the right is to the same session, and its transaction is the same
pub record IsSameHolder (old new : Option SessionClaim) : Type 0 where
  pub session : option_map (λ (s : SessionClaim). s.session) new ≡ option_map (λ (s : SessionClaim). s.session) old
  pub tx : option_map (λ (s : SessionClaim). s.tx) new ≡ option_map (λ (s : SessionClaim). s.tx) old
