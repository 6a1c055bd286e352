-- Calm lives: page 1 has all keys, and transactions come one after the other. What holds between two
-- commands of such a life, in terms of what its code keeps.
use Rattle.std.specs.Prelude.{◌≡◌, ◌≤◌, ◌<◌, ◌+◌, ℕ, suc, max, List, [], length, Option, Some, None, Bool, true, false, ◌==◌, IsTrue}
use Rattle.std.specs.List.{list_any}
use Rattle.wal_record.specs.Chains.{head, pages, last, finishes, greatest}
use Rattle.wal_record.specs.OpenWrites.{open_writes, pending, has_items}
use Rattle.wal_record.specs.Images.{image}
use Rattle.wal_record.specs.Checkpoints.{limit_of, commits}
use Rattle.wal_record.specs.Sound.{AreLawful}
use Rattle.wal_record.specs.History.{life_log, Live, phase, is_live, is_owner, greatest_begun, last_begun}
use Rattle.wal_record.specs.Locks.{taken_locks}
use Rattle.wal_record.specs.Legal.{untold, split_leaf, IsLegal}
use Rattle.wal_record.specs.declared.page.PageState.{PageState}
use Rattle.wal_record.specs.declared.page.LeafRow.{LeafRow}
use Rattle.wal_record.specs.declared.page.Rows.TheVariants.{Leaf}
use Rattle.wal_record.specs.declared.record.Record.{Record}
use Rattle.wal_record.specs.declared.record.Record.TheVariants as kinds
use Rattle.wal_record.specs.declared.entry.Entry.{Entry}

-- the open transaction: its session, its number, the LSN of its last record, 0 for none, and how many
-- open writes it has
pub record Opened : Type 0 where
  pub session : ℕ
  pub tx : ℕ
  pub last_lsn : ℕ
  pub writes : ℕ

-- the transaction is the open one
abbrev pub is_open : Option Opened → ℕ → Bool
is_open None t = false
is_open (Some o) t = o.tx == t

abbrev pub open_count : Option Opened → ℕ
open_count None = 0
open_count (Some o) = o.writes

-- a leaf with all keys
abbrev pub only_leaf : List LeafRow → PageState
only_leaf rows = record { level = 0; low = Some []; high = None; foster = None; rows = Leaf rows }

abbrev pub splits_page : Record → Bool
splits_page (kinds.Split s) = true
splits_page _ = false

-- ---- the log

-- the log names no such transaction
pub record IsUnnamed (log : List Record) (t : ℕ) : Type 0 where
  pub chain : last log t ≡ 0
  pub unfinished : list_any (finishes t) log ≡ false

pub record OpenInLog (log : List Record) (next lsn : ℕ) (o : Opened) : Type 0 where
  pub number : 1 ≤ o.tx
  pub below : o.tx < next
  pub chain : last log o.tx ≡ o.last_lsn
  pub place : o.last_lsn ≤ lsn
  pub unfinished : list_any (finishes o.tx) log ≡ false
  pub mine : length (open_writes log o.tx) ≡ o.writes

abbrev pub MaybeInLog : List Record → ℕ → ℕ → Option Opened → Type 0
MaybeInLog log next lsn None = Unit {0}
MaybeInLog log next lsn (Some o) = OpenInLog log next lsn o

-- the log has one page, a leaf with these rows, whose last record has the LSN `top`; `next` is above the
-- numbers of all transactions, and the last record has the LSN `lsn`
pub record CalmLog (log : List Record) (rows : List LeafRow) (top : ℕ) (active : Option Opened) (next count lsn : ℕ) : Type 0 where
  pub some : IsTrue (has_items log)
  pub size : length log ≡ lsn
  pub leaf : image log 1 ≡ Some (only_leaf rows)
  pub page_head : head log 1 ≡ top
  pub below : top ≤ lsn
  pub one_page : pages log ≡ 1
  pub whole : list_any splits_page log ≡ false
  -- only the open transaction has open writes, and there is room for them
  pub closed : (t : ℕ) → is_open active t ≡ false → open_writes log t ≡ []
  pub unfinished : pending log ≡ open_count active
  pub room : 1 + open_count active ≤ limit_of log
  pub opened : MaybeInLog log next lsn active
  pub fresh : (t : ℕ) → next ≤ t → IsUnnamed log t
  pub commits_are : commits log ≡ count

-- ---- the history

-- a transaction that isn't open holds no lock
pub record IsAtRest (h : List Entry) (t : ℕ) : Type 0 where
  pub idle : is_live (phase h t) ≡ false
  pub unlocked : taken_locks h t ≡ []

pub record OpenInHistory (h : List Entry) (o : Opened) : Type 0 where
  pub live : phase h o.tx ≡ Live
  pub owner : IsTrue (is_owner h o.session o.tx)

abbrev pub MaybeInHistory : List Entry → Option Opened → Type 0
MaybeInHistory h None = Unit {0}
MaybeInHistory h (Some o) = OpenInHistory h o

-- `next` is the next number of a transaction, and that of a session that is new
pub record CalmHistory (opening : List Record) (h : List Entry) (active : Option Opened) (next : ℕ) : Type 0 where
  pub number : next ≡ suc (max (greatest opening) (greatest_begun h))
  pub sessions : (session : ℕ) → next ≤ session → last_begun h session ≡ None
  pub rest : (t : ℕ) → is_open active t ≡ false → IsAtRest h t
  pub opened : MaybeInHistory h active
  pub no_split : split_leaf opening h ≡ None

-- ---- the life

-- a legal life over an opening log without losers, between two commands
pub record Calm (opening : List Record) (h : List Entry) (rows : List LeafRow) (top : ℕ) (active : Option Opened) (next count lsn : ℕ) : Type 0 where
  pub found : IsTrue (has_items opening)
  pub begins : AreLawful opening
  pub settled : (t : ℕ) → open_writes opening t ≡ []
  pub legal : IsLegal opening h
  -- each write is told to its transaction
  pub told : untold h ≡ None
  pub log : CalmLog (life_log opening h) rows top active next count lsn
  pub history : CalmHistory opening h active next
