-- The transactions that a table has.
use Rattle.std.specs.Prelude.{◌≡◌, ℕ, ◌<◌, List, [], ◌∷◌, Option, Some, None, true, vec_len, vec_capacity, ◌==◌, fold, if◌then◌else◌}
use Rattle.std.specs.Option.{option_map_or}
use Rattle.std.specs.Ordering.{nat_cmp}
use Rattle.std.specs.BTreeMap.{BTreeMap, get}
use Rattle.wal_record.specs.OpenWrites.{has_items}
use Rattle.wal_record.specs.Checkpoints.{last_open, oldest}
use Rattle.wal_record.specs.declared.record.Unfinished.{Unfinished}
use Rattle.wal_record.specs.declared.record.Record.{Record}
use Rattle.wal_record.specs.declared.record.Record.TheVariants as kinds
use Rattle.listing_laws.specs.Summary.{pending_in}
use Rattle.log_index.specs.declared.table.Tracked.{Tracked}

abbrev pub Table : Type 0
Table = BTreeMap ℕ Tracked

abbrev pub unfinished_of : ℕ → Tracked → Unfinished
unfinished_of t x = record { tx = t; last = x.last; undo_next = last_open x.writes.items; writes = x.writes.items }

-- a transaction, before others, if it has open writes
abbrev pub listed_before : List Unfinished → ℕ × Tracked → List Unfinished
listed_before us e = if has_items e.1.writes.items then unfinished_of e.0 e.1 ∷ us else us

-- the transactions that have open writes
unfoldable pub listed_in : List (ℕ × Tracked) → List Unfinished
listed_in [] = []
listed_in (e ∷ es) = listed_before (listed_in es) e

abbrev pub last_of_tracked : Option Tracked → ℕ
last_of_tracked found = option_map_or (λ (x : Tracked). x.last) found 0

-- the LSN that was noted last of a transaction that isn't over, 0 for none
abbrev pub noted_in : Table → ℕ → ℕ
noted_in table q = last_of_tracked (get nat_cmp table q)

abbrev pub IsRoomy : Option Tracked → Type 0
IsRoomy None = ⊥
IsRoomy (Some x) = vec_len x.writes < vec_capacity x.writes

-- the transaction is there, and has room for one more write
abbrev pub HasRoom : Table → ℕ → Type 0
HasRoom table q = IsRoomy (get nat_cmp table q)

-- that LSN after a record
abbrev pub noted_step : ℕ → ℕ → ℕ → Record → ℕ
noted_step lsn q n (kinds.Write w) = if w.tx == q then lsn else n
noted_step lsn q n (kinds.Apply a) = if a.tx == q then lsn else n
noted_step lsn q n (kinds.Undo u) = if u.tx == q then lsn else n
noted_step lsn q n (kinds.Commit c) = if c.tx == q then 0 else n
noted_step lsn q n (kinds.End e) = if e.tx == q then 0 else n
noted_step lsn q n _ = n

-- so many open writes are listed
abbrev pub IsCountOf : List Unfinished → ℕ → Type 0
IsCountOf us n = n ≡ pending_in us

-- ---- lists of transactions

-- each number is above this one
abbrev pub AllAbove : ℕ → List Unfinished → Type 0
AllAbove t [] = Unit {0}
AllAbove t (u ∷ us) = (t < u.tx) × AllAbove t us

abbrev pub AreRising : List Unfinished → Type 0
AreRising [] = Unit {0}
AreRising (u ∷ us) = AllAbove u.tx us × AreRising us

-- it has open writes, the last of which it names
abbrev pub IsListed : Unfinished → Type 0
IsListed u = (has_items u.writes ≡ true) × (u.undo_next ≡ last_open u.writes)

abbrev pub AllListed : List Unfinished → Type 0
AllListed [] = Unit {0}
AllListed (u ∷ us) = IsListed u × AllListed us

-- what a checkpoint may list
abbrev pub AreListed : List Unfinished → Type 0
AreListed us = AreRising us × AllListed us

-- ---- the oldest open write

-- the LSN of the oldest open write of all listed transactions, or this one
abbrev pub oldest_in : ℕ → List Unfinished → ℕ
oldest_in n us = fold (λ m (u : Unfinished). oldest u.writes m) n us
