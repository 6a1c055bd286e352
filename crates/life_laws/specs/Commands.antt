-- The commands of a calm life: the entries that each one makes, and where it is possible.
use Rattle.std.specs.Prelude.{◌≤◌, ◌<◌, ◌+◌, ◌^◌, ℕ, List, [], ◌∷◌, ◌++◌, Option, Some, None, IsTrue}
use Rattle.store_model.specs.Range.{point}
use Rattle.store_model.specs.declared.request.Request.TheVariants as requests
use Rattle.store_model.specs.declared.reply.Reply.TheVariants as replies
use Rattle.store_model.specs.declared.reply.Outcome.TheVariants as outcomes
use Rattle.store_model.specs.declared.range.Mode.TheVariants.{Shared, Exclusive}
use Rattle.wal_record.specs.State.{is_key, is_value, live, row_of, put_row, state_size, page_room}
use Rattle.wal_record.specs.declared.page.LeafRow.{LeafRow}
use Rattle.wal_record.specs.declared.record.Record.{Record}
use Rattle.wal_record.specs.declared.record.Record.TheVariants as kinds
use Rattle.wal_record.specs.declared.entry.Entry.{Entry}
use Rattle.wal_record.specs.declared.entry.Entry.TheVariants.{Rec, Lock, Said, Declined, Acked, Began}
use Rattle.life_laws.specs.Calm.{Opened, only_leaf}

-- ---- records and entries

-- the open transaction when it has begun, and after a write at this LSN
abbrev pub begun : ℕ → ℕ → Opened
begun session tx = record { session = session; tx = tx; last_lsn = 0; writes = 0 }

abbrev pub with_write : Opened → ℕ → Opened
with_write o lsn = record { session = o.session; tx = o.tx; last_lsn = lsn; writes = o.writes + 1 }

-- the rows with this value at the key
abbrev pub with_row : List LeafRow → List ℕ → List ℕ → List LeafRow
with_row rows key value = put_row (row_of key (Some value)) rows

-- its write of a key, where the leaf's last record has the LSN `top`, and its commit
abbrev pub writing : Opened → ℕ → List LeafRow → List ℕ → List ℕ → Record
writing o top rows key value = kinds.Write (record { tx = o.tx; prev = o.last_lsn; page = 1; page_prev = top; key = key; old = live rows key; new = Some value })

abbrev pub committing : Opened → Record
committing o = kinds.Commit (record { tx = o.tx; prev = o.last_lsn })

-- it locks the key, and is told the row's live value
abbrev pub get_entries : Opened → List LeafRow → List ℕ → List Entry
get_entries o rows key = Lock o.tx (point key) Shared ∷ Said o.session o.tx (requests.Get key) (replies.Found (live rows key)) ∷ []

-- it locks the key, writes it, and is told the value from before
abbrev pub put_entries : Opened → ℕ → List LeafRow → ℕ → List ℕ → List ℕ → List Entry
put_entries o top rows lsn key value =
    Lock o.tx (point key) Exclusive ∷ Rec (lsn + 1) (writing o top rows key value) ∷ Said o.session o.tx (requests.Put key value) (replies.Was (live rows key)) ∷ []

-- it locks the key, and a put is refused: the store has one page and the pending writes of this transaction, and no
-- room for a write and a page more
abbrev pub full_entries : Opened → List ℕ → List ℕ → List Entry
full_entries o key value = Lock o.tx (point key) Exclusive ∷ Declined o.session o.tx (requests.Put key value) (outcomes.Full 1 o.writes) ∷ []

abbrev pub commit_entries : Opened → ℕ → List Entry
commit_entries o lsn = Rec (lsn + 1) (committing o) ∷ Acked o.session o.tx ∷ []

-- ---- commands

pub data Command : Type 0 where
  Begin : Command
  Get : List ℕ → Command
  Put : List ℕ → List ℕ → Command
  Commit : Command

-- what the code of a calm life keeps: the rows of the leaf, the LSN of its last record, the open
-- transaction, the next number of one, the number of commits, and the LSN of the log's last record
pub record CalmStanding : Type 0 where
  pub rows : List LeafRow
  pub top : ℕ
  pub active : Option Opened
  pub next : ℕ
  pub commits : ℕ
  pub lsn : ℕ

-- of a fresh store
abbrev pub fresh : CalmStanding
fresh = record { rows = []; top = 1; active = None; next = 1; commits = 0; lsn = 1 }

-- a transaction has a session of its own, with its number
abbrev pub entries_in : Option Opened → CalmStanding → Command → List Entry
entries_in None s Begin = Began s.next s.next ∷ []
entries_in (Some o) s (Get key) = get_entries o s.rows key
entries_in (Some o) s (Put key value) = put_entries o s.top s.rows s.lsn key value
entries_in (Some o) s Commit = commit_entries o s.lsn
entries_in _ s c = []

abbrev pub standing_in : Option Opened → CalmStanding → Command → CalmStanding
standing_in None s Begin = record s { active = Some (begun s.next s.next); next = s.next + 1 }
standing_in (Some o) s (Put key value) = record s { rows = with_row s.rows key value; top = s.lsn + 1; active = Some (with_write o (s.lsn + 1)); lsn = s.lsn + 1 }
standing_in (Some o) s Commit = record s { active = None; commits = s.commits + 1; lsn = s.lsn + 1 }
standing_in _ s c = s

-- the numbers of records and of transactions aren't used up
pub record HasNumbers (lsn next : ℕ) : Type 0 where
  pub lsns : lsn < 2 ^ 63
  pub transactions : next ≤ 2 ^ 63

-- a put where key and value have lawful lengths, the leaf fits, and the limit has room for one write more
pub record MayPut (limit : ℕ) (o : Opened) (rows : List LeafRow) (lsn next : ℕ) (key value : List ℕ) : Type 0 where
  pub key_fits : IsTrue (is_key key)
  pub value_fits : IsTrue (is_value value)
  pub leaf_fits : state_size (only_leaf (with_row rows key value)) ≤ page_room
  pub room : o.writes + 2 ≤ limit
  pub numbers : HasNumbers lsn next

-- where the command is possible: one transaction after the other
abbrev pub MayIn : ℕ → Option Opened → CalmStanding → Command → Type 0
MayIn limit None s Begin = Unit {0}
MayIn limit (Some o) s (Get key) = Unit {0}
MayIn limit (Some o) s (Put key value) = MayPut limit o s.rows s.lsn s.next key value
MayIn limit (Some o) s Commit = HasNumbers s.lsn s.next
MayIn limit _ s c = ⊥

-- ---- lives

-- the entries of commands, one after the other
abbrev pub entries_from : CalmStanding → List Command → List Entry
entries_from s [] = []
entries_from s (c ∷ cs) = entries_in s.active s c ++ entries_from (standing_in s.active s c) cs

abbrev pub standing_from : CalmStanding → List Command → CalmStanding
standing_from s [] = s
standing_from s (c ∷ cs) = standing_from (standing_in s.active s c) cs

-- each one is possible after those before it
abbrev pub ArePossible : ℕ → CalmStanding → List Command → Type 0
ArePossible limit s [] = Unit {0}
ArePossible limit s (c ∷ cs) = MayIn limit s.active s c × ArePossible limit (standing_in s.active s c) cs
