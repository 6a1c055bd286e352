-- Open writes: the writes of a transaction that are neither undone nor committed. A transaction that
-- has some where the log ends is a loser (Mohan et al. 1992).
use Rattle.std.specs.Prelude.{◌≡◌, ◌≢◌, ℕ, zero, suc, ◌+◌, List, [], ◌∷◌, ◌++◌, length, filter, Option, None, Bool, true, false, ◌==◌, if◌then◌else◌}
use Rattle.std.specs.List.{list_any, range_with_len}
use Rattle.store_model.specs.Along.{along}
use Rattle.wal_record.specs.State.{same_key}
use Rattle.wal_record.specs.Chains.{greatest}
use Rattle.wal_record.specs.declared.record.OpenWrite.{OpenWrite}
use Rattle.wal_record.specs.declared.record.Record.{Record}
use Rattle.wal_record.specs.declared.record.Record.TheVariants as kinds

-- the list without its last member
abbrev pub without_last : {A : Type 0} → List A → List A
without_last [] = []
without_last (x ∷ []) = []
without_last (x ∷ y ∷ ys) = x ∷ without_last (y ∷ ys)

-- a transaction's list after a record, where `item` stands for that record in it: a write is added at
-- the end, an undo removes the last member, a commit or an end all
abbrev pub open_step : {A : Type 0} → ℕ → A → List A → Record → List A
open_step t item ws (kinds.Write w) = if w.tx == t then ws ++ item ∷ [] else ws
open_step t item ws (kinds.Apply a) = if a.tx == t then ws ++ item ∷ [] else ws
open_step t item ws (kinds.Undo u) = if u.tx == t then without_last ws else ws
open_step t item ws (kinds.Commit c) = if c.tx == t then [] else ws
open_step t item ws (kinds.End e) = if e.tx == t then [] else ws
open_step t item ws _ = ws

-- the open writes of a transaction, oldest first
unfoldable pub open_writes : List Record → ℕ → List Record
open_writes log t = along (λ before ws r. open_step t r ws r) [] log

-- the key that a record gives a value, and the value that a write found there
abbrev pub key_of : Record → List ℕ
key_of (kinds.Write w) = w.key
key_of (kinds.Apply a) = a.key
key_of (kinds.Undo u) = u.key
key_of _ = []

abbrev pub old_of : Record → Option (List ℕ)
old_of (kinds.Write w) = w.old
old_of (kinds.Apply a) = a.old
old_of _ = None

-- the open writes of a transaction in short, each with its LSN and its key
unfoldable pub open_list : List Record → ℕ → List OpenWrite
open_list log t = along (λ before ws r. open_step t (record { lsn = length before + 1; key = key_of r }) ws r) [] log

-- the record gives the key a value
abbrev pub writes : List ℕ → Record → Bool
writes key (kinds.Write w) = same_key key w.key
writes key (kinds.Apply a) = same_key key a.key
writes key (kinds.Undo u) = same_key key u.key
writes key _ = false

-- the transaction has an open write of the key
abbrev pub opens : List Record → List ℕ → ℕ → Bool
opens log key t = list_any (writes key) (open_writes log t)

-- no other transaction has an open write of the key
abbrev pub IsAlone : List Record → List ℕ → ℕ → Type 0
IsAlone log key t = (other : ℕ) → other ≢ t → opens log key other ≡ false

abbrev pub has_items : {A : Type 0} → List A → Bool
has_items [] = false
has_items (x ∷ xs) = true

abbrev pub is_loser : List Record → ℕ → Bool
is_loser log t = has_items (open_writes log t)

-- the losers, by rising number
abbrev pub losers : List Record → List ℕ
losers log = filter (is_loser log) (range_with_len 1 (greatest log))

-- the sum of f over 0 to n
abbrev pub sum_to : (ℕ → ℕ) → ℕ → ℕ
sum_to f zero = f 0
sum_to f (suc n) = sum_to f n + f (suc n)

-- pending writes: how many open writes all transactions have together
unfoldable pub pending : List Record → ℕ
pending log = sum_to (λ t. length (open_writes log t)) (greatest log)
