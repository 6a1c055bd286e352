-- Histories: the log of a life, the phases of its transactions, and who began them. A life is the log
-- that an opening found and the history since.
use Rattle.std.specs.Prelude.{ℕ, max, List, [], ◌∷◌, ◌++◌, filter, length, Option, Some, None, Bool, true, false, ◌&&◌, ◌==◌, if◌then◌else◌, IsTrue}
use Rattle.std.specs.List.{list_any}
use Rattle.store_model.specs.Along.{along}
use Rattle.wal_record.specs.declared.record.Record.{Record}
use Rattle.wal_record.specs.declared.record.Record.TheVariants as kinds
use Rattle.wal_record.specs.declared.entry.Entry.{Entry}
use Rattle.wal_record.specs.declared.entry.Entry.TheVariants.{Rec, Acked, Began}

-- the records among the entries
abbrev pub log_of : List Entry → List Record
log_of [] = []
log_of (Rec lsn r ∷ es) = r ∷ log_of es
log_of (_ ∷ es) = log_of es

-- the log of a life
abbrev pub life_log : List Record → List Entry → List Record
life_log opening h = opening ++ log_of h

-- ---- phases

-- not begun in this life; begun and unfinished; committed; acknowledged; undone and ended
pub data Phase : Type 0 where
  Idle : Phase
  Live : Phase
  Committed : Phase
  Acknowledged : Phase
  Ended : Phase

abbrev pub phase_step : ℕ → Phase → Entry → Phase
phase_step t p (Began session tx) = if tx == t then Live else p
phase_step t p (Acked session tx) = if tx == t then Acknowledged else p
phase_step t p (Rec lsn (kinds.Commit c)) = if c.tx == t then Committed else p
phase_step t p (Rec lsn (kinds.End e)) = if e.tx == t then Ended else p
phase_step t p _ = p

unfoldable pub phase : List Entry → ℕ → Phase
phase h t = along (λ before p e. phase_step t p e) Idle h

abbrev pub is_live : Phase → Bool
is_live Live = true
is_live _ = false

-- its session may begin another one
abbrev pub is_over : Phase → Bool
is_over Acknowledged = true
is_over Ended = true
is_over _ = false

-- ---- sessions

-- a session, and a transaction that it began
pub record Beginning : Type 0 where
  pub session : ℕ
  pub tx : ℕ

abbrev pub beginnings : List Entry → List Beginning
beginnings [] = []
beginnings (Began session tx ∷ es) = record { session = session; tx = tx } ∷ beginnings es
beginnings (_ ∷ es) = beginnings es

-- the session began the transaction
abbrev pub is_owner : List Entry → ℕ → ℕ → Bool
is_owner h session tx = list_any (λ (b : Beginning). b.session == session && b.tx == tx) (beginnings h)

abbrev pub begun_step : ℕ → Entry → ℕ
begun_step n (Began session tx) = max n tx
begun_step n _ = n

-- the greatest number that was begun, 0 for none
unfoldable pub greatest_begun : List Entry → ℕ
greatest_begun h = along (λ before n e. begun_step n e) 0 h

-- how many transactions are live
abbrev pub live_count : List Entry → ℕ
live_count h = length (filter (λ (b : Beginning). is_live (phase h b.tx)) (beginnings h))

abbrev pub session_step : ℕ → Option ℕ → Entry → Option ℕ
session_step session t (Began other tx) = if other == session then Some tx else t
session_step session t _ = t

-- the transaction that the session began last
unfoldable pub last_begun : List Entry → ℕ → Option ℕ
last_begun h session = along (λ before t e. session_step session t e) None h

-- that one, if any, was acknowledged or has ended
abbrev pub IsFree : List Entry → Option ℕ → Type 0
IsFree h None = Unit {0}
IsFree h (Some t) = IsTrue (is_over (phase h t))
