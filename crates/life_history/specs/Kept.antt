-- What a life's history keeps.
use Rattle.std.specs.Prelude.{◌≡◌, ◌≢◌, ℕ, suc, max, ◌+◌, ◌*◌, ◌^◌, ◌<◌, ◌≤◌, List, [], ◌∷◌, length, filter, Option, Some, None, is_some, Bool, true, false, ◌&&◌, ◌==◌, IsTrue}
use Rattle.std.specs.List.{list_any}
use Rattle.books.specs.Booking.{entry_of}
use Rattle.books.specs.declared.entry.BookEntry.{BookEntry}
use Rattle.wal_record.specs.Books.{page_book, maintenance_book, session_entries, session_transaction}
use Rattle.wal_record.specs.Chains.{greatest}
use Rattle.wal_record.specs.Sound.{IsSound}
use Rattle.wal_record.specs.History.{log_of, Phase, Idle, phase, is_live, Beginning, beginnings, greatest_begun, last_begun}
use Rattle.wal_record.specs.declared.record.Record.{Record}
use Rattle.wal_record.specs.declared.record.Record.TheVariants as kinds
use Rattle.wal_record.specs.declared.entry.Entry.{Entry}
use Rattle.wal_record.specs.declared.entry.Entry.TheVariants as entries
use Rattle.page_ops.specs.Names.{LedgerName}
use Rattle.page_ops.specs.Outcomes.{is_undo, is_repaired}
use Rattle.page_ops.specs.Seeing.{Account, Counted, IsConsistent, is_begun, of_sessions}

-- the numbers that it counts: its entries, the next session, the next transaction and the first one that a session began or
-- may begin, and how many transactions are live
pub record Numbers : Type 0 where
  pub entries : ℕ
  pub session : ℕ
  pub tx : ℕ
  pub first : ℕ
  pub live : ℕ

-- its three books
pub record BooksOf : Type 0 where
  pub pages : List BookEntry
  pub sessions : List BookEntry
  pub maint : List BookEntry

-- each entry of a book is what stands in the history for its number
pub record AreKept (opens : List Record → Type 0) (h : List Entry) (b : BooksOf) : Type 0 where
  pub pages : (n : ℕ) (e : BookEntry) → entry_of n b.pages ≡ Some e → (opening : List Record) → opens opening → e.first ≡ page_book opening h n
  pub sessions : (n : ℕ) (e : BookEntry) → entry_of n b.sessions ≡ Some e → (e.first ≡ session_entries h n) × (e.second ≡ session_transaction h n)
  pub maint : (n : ℕ) (e : BookEntry) → entry_of n b.maint ≡ Some e → e.first ≡ maintenance_book h

-- the book of pages has none from this number on, and that of maintenance has the number 0 at most
pub record IsSmall (page : ℕ) (b : BooksOf) : Type 0 where
  pub pages : (n : ℕ) → page ≤ n → entry_of n b.pages ≡ None
  pub maint : (n : ℕ) (e : BookEntry) → entry_of n b.maint ≡ Some e → n ≡ 0

-- no session has this number
pub record IsFresh (h : List Entry) (sessions : List BookEntry) (session : ℕ) : Type 0 where
  pub book : entry_of session sessions ≡ None
  pub entries : session_entries h session ≡ 0
  pub begun : last_begun h session ≡ None

-- how often the transaction was begun
abbrev pub times : ℕ → List Beginning → ℕ
times t bs = length (filter (λ (b : Beginning). b.tx == t) bs)

abbrev pub is_beginning : ℕ → ℕ → Beginning → Bool
is_beginning session tx b = b.session == session && b.tx == tx

abbrev pub is_started : Phase → Bool
is_started Idle = false
is_started _ = true

-- Each transaction was begun once, below the next number and up to 2^62, and is no more idle. Of a session, the one that it
-- began last is its own. As many are live as are counted, and no more than 64.
pub record AreBegun (bs : List Beginning) (phases : ℕ → Phase) (begun : ℕ → Option ℕ) (next live : ℕ) : Type 0 where
  pub once : (t : ℕ) → times t bs ≤ 1
  pub below : (t : ℕ) → next ≤ t → times t bs ≡ 0
  pub small : (t : ℕ) → 2 ^ 62 < t → times t bs ≡ 0
  pub started : (t : ℕ) → 0 < times t bs → IsTrue (is_started (phases t))
  pub owner : (s t : ℕ) → begun s ≡ Some t → IsTrue (list_any (is_beginning s t) bs)
  pub counted : live ≡ length (filter (λ (b : Beginning). is_live (phases b.tx)) bs)
  pub most : live ≤ 64

-- The transactions that sessions begin have this number or a higher one, up to the next; those of the opening log are below.
pub record IsFirst (opens : List Record → Type 0) (h : List Entry) (first next : ℕ) : Type 0 where
  pub least : first ≤ next
  pub opening : (opening : List Record) → opens opening → first ≡ suc (greatest opening)
  pub begun : (t : ℕ) → t < first → is_begun h t ≡ false

-- the history is consistent, the numbers and books are its own, and the ledgers' totals count its entries
pub record IsKept (opens : List Record → Type 0) (h : List Entry) (n : Numbers) (b : BooksOf) (total of_session : ℕ) : Type 0 where
  pub consistent : IsConsistent opens h
  pub entries : n.entries ≡ length h
  pub number : (opening : List Record) → opens opening → n.tx ≡ suc (max (greatest opening) (greatest_begun h))
  pub least : 1 ≤ n.tx
  pub first : IsFirst opens h n.first n.tx
  -- a commit of each live transaction enters two entries
  pub room : n.entries + 2 * n.live < 2 ^ 63
  pub begun : AreBegun (beginnings h) (phase h) (last_begun h) n.tx n.live
  pub fresh : (s : ℕ) → n.session ≤ s → IsFresh h b.sessions s
  pub books : AreKept opens h b
  pub counted : total ≡ length h
  pub sessions_counted : of_session ≡ of_sessions h

-- so many writes were undone, and so many pages repaired
pub record IsTallied (h : List Entry) (undos repairs : ℕ) : Type 0 where
  pub undone : undos ≡ length (filter is_undo (log_of h))
  pub repaired : repairs ≡ length (filter is_repaired h)

-- the entry is no record, and no transaction begins or ends by it
abbrev pub is_calm : Entry → Bool
is_calm (entries.Lock tx range mode) = true
is_calm (entries.Refused tx range mode holder) = true
is_calm (entries.Said session tx request reply) = true
is_calm (entries.Declined session tx request why) = true
is_calm _ = false

-- it names this session, or a transaction of its
abbrev pub is_of : ℕ → ℕ → Entry → Bool
is_of session tx (entries.Lock t range mode) = t == tx
is_of session tx (entries.Refused t range mode holder) = t == tx
is_of session tx (entries.Said s t request reply) = s == session
is_of session tx (entries.Declined s t request why) = s == session
is_of session tx _ = false

-- one such entry, of this session
abbrev pub IsOneOf : ℕ → ℕ → List Entry → Type 0
IsOneOf session tx (e ∷ []) = (is_calm e ≡ true) × (is_of session tx e ≡ true)
IsOneOf session tx es = ⊥

-- the commit of a transaction
abbrev pub commit_entry : ℕ → ℕ → ℕ → Entry
commit_entry lsn tx prev = entries.Rec lsn (kinds.Commit (record { tx = tx; prev = prev }))

-- the end of a transaction whose writes have all been undone
abbrev pub end_entry : ℕ → ℕ → ℕ → Entry
end_entry lsn tx prev = entries.Rec lsn (kinds.End (record { tx = tx; prev = prev }))

-- a sound log that isn't empty, with this number above all its transactions
pub record Begins (opening : List Record) (next : ℕ) : Type 0 where
  pub sound : IsSound opening
  pub some : opening ≢ []
  pub number : next ≡ suc (greatest opening)

-- whoever has all parts of the ledger of the log disk's faults has counted one
abbrev pub HasCause : LedgerName → Counted → Type 0
HasCause log_faults x = x.parts ≡ log_faults.parts → x.amount ≢ 0

-- who knows of an end knows that
abbrev pub KnowsWhy : LedgerName → Option ℕ → Counted → Type 0
KnowsWhy log_faults ended x = is_some ended ≡ true → HasCause log_faults x

-- so many entries more, of a session, in both shares
abbrev pub counted_more : Account → ℕ → Account
counted_more a n = record a { entries = record { parts = a.entries.parts; amount = a.entries.amount + n }; session_entries = record { parts = a.session_entries.parts; amount = a.session_entries.amount + n } }
