-- What a caller of the journal knows, and what a call adds to it. The history grows under the journal's lock, and each
-- call sees it whole at one moment.
use Rattle.std.specs.Prelude.{◌≡◌, ◌≢◌, ◌⊎◌, IsTrue, IfSome, Some, ℕ, suc, ◌+◌, ◌<◌, ◌≤◌, List, [], ◌∷◌, ◌++◌, length, Option, None, Bool, true, false, ◌==◌, if◌then◌else◌}
use Rattle.std.specs.List.{list_any, list_all}
use Rattle.std.specs.Option.{option_map_or}
use mathlib.Core.List.{IsPrefix}
use Rattle.front.specs.Seen.{PassSeen}
use Rattle.media.specs.Cause.{Rose}
use Rattle.store_model.specs.Along.{along}
use Rattle.wal_record.specs.Chains.{Link, link_of}
use Rattle.wal_record.specs.History.{Beginning, beginnings, life_log}
use Rattle.wal_record.specs.Legal.{IsLegal, untold, split_leaf}
use Rattle.wal_record.specs.Sound.{IsSound}
use Rattle.wal_record.specs.declared.record.Record.{Record}
use Rattle.wal_record.specs.declared.record.Record.TheVariants as kinds
use Rattle.wal_record.specs.declared.entry.Entry.{Entry}
use Rattle.wal_record.specs.declared.entry.Entry.TheVariants.{Rec, Lock, Refused, Said, Declined, Acked, Repaired, Began}
use Rattle.page_ops.specs.Names.{LedgerName}
use Rattle.page_ops.specs.Claims.{Claims, Agree, no_claims}

-- ---- what is true of a history whenever the journal is free

-- Whatever log the life began with, the history is legal after it, and the log of the life sound, and not empty. Each
-- write was told, and each split of a leaf has the write that it was made for.
pub record IsConsistent (opens : List Record → Type 0) (h : List Entry) : Type 0 where
  pub legal : (opening : List Record) → opens opening → IsLegal opening h
  pub sound : (opening : List Record) → opens opening → IsSound (life_log opening h)
  pub some : (opening : List Record) → opens opening → life_log opening h ≢ []
  pub told : untold h ≡ None
  pub split : (opening : List Record) → opens opening → split_leaf opening h ≡ None

-- a moment since a caller saw the history: the history goes on from there, and the caller's rights agree with it
pub record IsMoment (opens : List Record → Type 0) (seen : List Entry) (x : Claims) (h : List Entry) : Type 0 where
  pub begins : IsPrefix seen h
  pub consistent : IsConsistent opens h
  pub rights : Agree opens h x

-- ---- the entries of sessions

-- a session began the transaction
abbrev pub is_begun : List Entry → ℕ → Bool
is_begun h tx = list_any (λ (b : Beginning). b.tx == tx) (beginnings h)

abbrev pub is_begun_link : List Entry → Option Link → Bool
is_begun_link h link = option_map_or (λ (l : Link). is_begun h l.tx) link false

-- after these entries, the next one belongs to a session
abbrev pub is_of_session : List Entry → Entry → Bool
is_of_session h (Began session tx) = true
is_of_session h (Said session tx request reply) = true
is_of_session h (Declined session tx request why) = true
is_of_session h (Acked session tx) = true
is_of_session h (Lock tx range mode) = is_begun h tx
is_of_session h (Refused tx range mode holder) = is_begun h tx
is_of_session h (Rec lsn r) = is_begun_link h (link_of r)
is_of_session h (Repaired page) = false

-- how many entries belong to sessions
unfoldable pub of_sessions : List Entry → ℕ
of_sessions h = along (λ before n e. if is_of_session before e then suc n else n) 0 h

-- ---- what a caller knows

-- its shares of a ledger: how many parts, and their amount
pub record Counted : Type 0 where
  pub parts : ℕ
  pub amount : ℕ

-- what the log disk tells of its calls: how many more its fuse lets pass, where one is armed; how many that has refused; and
-- how many have failed by themselves
pub record Calls : Type 0 where
  pub passes : Option ℕ
  pub refused : ℕ
  pub own : ℕ

-- of an object through which a thread calls the journal: the entries entered through it, those among them that belong
-- to sessions, the faults of the log disk and of the vault at device calls made through it, and the sessions and desks
-- made through it; the LSN up to which the log was durable as the life ended, where it knows that the life has ended; and
-- what the log disk tells of its calls, where the object tells that
pub record Account : Type 0 where
  pub entries : Counted
  pub session_entries : Counted
  pub log_faults : Counted
  pub vault_faults : Counted
  pub made : Counted
  pub ended : Option ℕ
  pub calls : Option Calls

-- with what its pass has seen, a beginning of the history and a durable number, and the claims of its rights
pub record Known : Type 0 where
  pub account : Account
  pub log : List Entry
  pub durable : ℕ
  pub claims : Claims

abbrev pub known : Account → PassSeen Entry → Claims → Known
known account seen claims = record { account = account; log = seen.log; durable = seen.durable; claims = claims }

-- Calls of the log disk, between which so many of its faults were counted: where no fuse is armed none is refused and none
-- is armed; the counts don't fall; and a fault was a call that failed by itself or was refused.
pub record GoesOn (old new : Calls) (before now : ℕ) : Type 0 where
  pub unarmed : old.passes ≡ None → (new.passes ≡ None) × (new.refused ≡ old.refused)
  pub refused : old.refused ≤ new.refused
  pub own : old.own ≤ new.own
  pub cause : before < now → Rose old.own new.own ⊎ Rose old.refused new.refused

-- what is told stays told
abbrev pub CallsGoOn : Option Calls → Option Calls → ℕ → ℕ → Type 0
CallsGoOn None new before now = new ≡ None
CallsGoOn (Some x) None before now = ⊥
CallsGoOn (Some x) (Some y) before now = GoesOn x y before now

-- Parts don't change, counts don't fall, no session and no desk is made, and a known end stays.
pub record Keeps (old new : Account) : Type 0 where
  pub entry_parts : new.entries.parts ≡ old.entries.parts
  pub session_parts : new.session_entries.parts ≡ old.session_entries.parts
  pub log_parts : new.log_faults.parts ≡ old.log_faults.parts
  pub vault_parts : new.vault_faults.parts ≡ old.vault_faults.parts
  pub log_faults : old.log_faults.amount ≤ new.log_faults.amount
  pub vault_faults : old.vault_faults.amount ≤ new.vault_faults.amount
  pub made : new.made ≡ old.made
  pub ended : IfSome old.ended (λ at. new.ended ≡ Some at)
  pub calls : CallsGoOn old.calls new.calls old.log_faults.amount new.log_faults.amount

-- whoever has all parts of both ledgers of entries has entered all that its pass has seen
pub record HasTotals (entries sessions : LedgerName) (x : Account) (h : List Entry) : Type 0 where
  pub all : x.entries.parts ≡ entries.parts → length h ≡ x.entries.amount
  pub of_sessions : x.session_entries.parts ≡ sessions.parts → of_sessions h ≡ x.session_entries.amount

-- The call found the history at some moment, and added these entries. The caller has then seen it whole, and no smaller
-- durable number than before. The claims agreed with it at that moment, and the new ones agree with it now.
pub record Enters (opens : List Record → Type 0) (entries sessions : LedgerName) (old : Known) (es : List Entry) (new : Known) : Type 0 where
  pub moment : List Entry
  pub found : IsMoment opens old.log old.claims moment
  pub is : new.log ≡ moment ++ es
  pub now : IsMoment opens old.log new.claims new.log
  pub durable : old.durable ≤ new.durable
  pub keeps : Keeps old.account new.account
  pub counted : new.account.entries.amount ≡ old.account.entries.amount + length es
  pub sessions_counted : new.account.session_entries.amount + of_sessions moment ≡ old.account.session_entries.amount + of_sessions new.log
  pub totals : HasTotals entries sessions new.account new.log

-- the call adds nothing, and no right is handed in
abbrev pub Looks : (List Record → Type 0) → LedgerName → LedgerName → Account → PassSeen Entry → Account → PassSeen Entry → Type 0
Looks opens entries sessions old seen new now = Enters opens entries sessions (known old seen no_claims) [] (known new now no_claims)

-- ---- calls that enter several times

-- the first list stands in the second, in its order, perhaps with others between
abbrev pub IsAmong : List Entry → List Entry → Type 0
IsAmong [] gained = Unit {0}
IsAmong (e ∷ es) [] = ⊥
IsAmong (e ∷ es) (x ∷ gained) = ((e ≡ x) × IsAmong es gained) ⊎ IsAmong (e ∷ es) gained

-- The call added entries of its own of this kind, none of them a session's, perhaps with others between.
pub record Upholds (opens : List Record → Type 0) (entries sessions : LedgerName) (kind : Entry → Bool) (old new : Known) : Type 0 where
  pub gained : List Entry
  pub is : new.log ≡ old.log ++ gained
  pub own : List Entry
  pub among : IsAmong own gained
  pub kinds : IsTrue (list_all kind own)
  pub consistent : IsConsistent opens new.log
  pub durable : old.durable ≤ new.durable
  pub keeps : Keeps old.account new.account
  pub counted : new.account.entries.amount ≡ old.account.entries.amount + length own
  pub sessions_counted : new.account.session_entries.amount ≡ old.account.session_entries.amount
  pub totals : HasTotals entries sessions new.account new.log

-- what the upkeep of pages enters: an image was written, a page repaired, a segment restored
abbrev pub is_upkeep : Entry → Bool
is_upkeep (Repaired page) = true
is_upkeep (Rec lsn (kinds.Written w)) = true
is_upkeep (Rec lsn (kinds.Restored r)) = true
is_upkeep _ = false

abbrev pub is_none : Entry → Bool
is_none e = false
