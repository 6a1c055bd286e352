-- The books of a life: what stands in it for each page, for maintenance, and for each session.
use Rattle.std.specs.Prelude.{ℕ, suc, List, Option, Some, None, Bool, false, ◌==◌, if◌then◌else◌}
use Rattle.store_model.specs.Along.{along}
use Rattle.wal_record.specs.Chains.{head, Link, link_of}
use Rattle.wal_record.specs.History.{life_log, phase, is_over, is_owner, last_begun}
use Rattle.wal_record.specs.declared.record.Record.{Record}
use Rattle.wal_record.specs.declared.record.Record.TheVariants as kinds
use Rattle.wal_record.specs.declared.entry.Entry.{Entry}
use Rattle.wal_record.specs.declared.entry.Entry.TheVariants.{Rec, Lock, Refused, Said, Declined, Acked, Repaired, Began}

-- the book of a page: its head
abbrev pub page_book : List Record → List Entry → ℕ → ℕ
page_book opening h p = head (life_log opening h) p

abbrev pub maintenance_step : ℕ → Entry → ℕ
maintenance_step n (Rec lsn (kinds.BackupDone b)) = lsn
maintenance_step n (Rec lsn (kinds.RunDone d)) = lsn
maintenance_step n _ = n

-- the book of maintenance: the LSN of the last BackupDone or RunDone of this life, 0 for none
unfoldable pub maintenance_book : List Entry → ℕ
maintenance_book h = along (λ before n e. maintenance_step n e) 0 h

abbrev pub owns_link : List Entry → ℕ → Option Link → Bool
owns_link h session None = false
owns_link h session (Some l) = is_owner h session l.tx

-- after these entries, the next one belongs to the session: it names the session, or a transaction
-- that the session began
abbrev pub belongs : List Entry → ℕ → Entry → Bool
belongs h session (Began other tx) = other == session
belongs h session (Said other tx request reply) = other == session
belongs h session (Declined other tx request why) = other == session
belongs h session (Acked other tx) = other == session
belongs h session (Lock tx range mode) = is_owner h session tx
belongs h session (Refused tx range mode holder) = is_owner h session tx
belongs h session (Rec lsn r) = owns_link h session (link_of r)
belongs h session (Repaired page) = false

-- the book of a session: how many entries belong to it
unfoldable pub session_entries : List Entry → ℕ → ℕ
session_entries h session = along (λ before n e. if belongs before session e then suc n else n) 0 h

abbrev pub unless_over : List Entry → Option ℕ → ℕ
unless_over h None = 0
unless_over h (Some t) = if is_over (phase h t) then 0 else t

-- and its transaction: the one that it began last, until that is acknowledged or has ended, else 0
abbrev pub session_transaction : List Entry → ℕ → ℕ
session_transaction h session = unless_over h (last_begun h session)
