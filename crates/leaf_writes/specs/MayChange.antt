-- Who may change the row of a key, and what the change has to say.
use Rattle.std.specs.Prelude.{◌≡◌, ℕ, true, List, Option, Some, None, is_some, IsTrue}
use Rattle.std.specs.List.{list_any}
use mathlib.Core.List.{IsPrefix}
use Rattle.books.specs.Rights.{SessionClaim}
use Rattle.store_model.specs.Operator.{meaning}
use Rattle.wal_record.specs.State.{leaf_rows, live}
use Rattle.wal_record.specs.History.{Live, life_log, phase}
use Rattle.wal_record.specs.Locks.{covers_write, taken_locks}
use Rattle.wal_record.specs.OpenWrites.{is_loser, open_writes}
use Rattle.wal_record.specs.Rules.{is_change, is_lsn_or_none, is_number}
use Rattle.wal_record.specs.Sound.{UndoRule}
use Rattle.wal_record.specs.declared.page.PageState.{PageState}
use Rattle.wal_record.specs.declared.record.Undo.{Undo}
use Rattle.wal_record.specs.declared.record.Record.{Record}
use Rattle.wal_record.specs.declared.entry.Entry.{Entry}
use Rattle.page_ops.specs.Claims.{SessionAgrees}
use Rattle.leaf_writes.specs.declared.change.Change.{Change}
use Rattle.leaf_writes.specs.declared.change.How.{How}
use Rattle.leaf_writes.specs.declared.change.How.TheVariants as hows

-- the right to the session agrees, and its transaction is live and has locked the key for writing
pub record IsWriter (opens : List Record → Type 0) (seen : List Entry) (key : List ℕ) (s : SessionClaim) : Type 0 where
  pub agrees : SessionAgrees seen s
  pub number : IsTrue (is_number s.tx)
  pub live : (opening : List Record) → opens opening → phase seen s.tx ≡ Live
  pub locked : (opening : List Record) → opens opening → IsTrue (list_any (covers_write key) (taken_locks seen s.tx))

-- that session's transaction is the one that writes
abbrev pub IsWritten : (List Record → Type 0) → List Entry → ℕ → List ℕ → Option SessionClaim → Type 0
IsWritten opens seen tx key None = ⊥
IsWritten opens seen tx key (Some s) = (s.tx ≡ tx) × IsWriter opens seen key s

-- the undo, on no page yet
abbrev pub undo_of : ℕ → List ℕ → Option (List ℕ) → ℕ → Undo
undo_of tx key restores undo_next = record { tx = tx; prev = 0; page = 0; page_prev = 0; key = key; restores = restores; undo_next = undo_next }

-- of the session's own transaction, which is live: it takes the last open write back
pub record IsOwnUndo (opens : List Record → Type 0) (seen : List Entry) (u : Undo) (s : SessionClaim) : Type 0 where
  pub agrees : SessionAgrees seen s
  pub tx : s.tx ≡ u.tx
  pub live : (opening : List Record) → opens opening → phase seen u.tx ≡ Live
  pub last : (opening : List Record) → opens opening → UndoRule (open_writes (life_log opening seen) u.tx) u

-- of a loser: it took the last open write back at some moment; another thread may come first
pub record IsLoserUndo (opens : List Record → Type 0) (seen : List Entry) (u : Undo) : Type 0 where
  pub loser : (opening : List Record) → opens opening → is_loser opening u.tx ≡ true
  pub was : (opening : List Record) → opens opening → (before : List Entry) × IsPrefix before seen × UndoRule (open_writes (life_log opening before) u.tx) u

abbrev pub IsUndone : (List Record → Type 0) → List Entry → Undo → Option SessionClaim → Type 0
IsUndone opens seen u None = IsLoserUndo opens seen u
IsUndone opens seen u (Some s) = IsOwnUndo opens seen u s

-- A write tells the leaf's value and changes it, an operator gives the new value, and an undo takes back what it says.
abbrev pub MayBy : How → (List Record → Type 0) → List Entry → PageState → ℕ → List ℕ → Option (List ℕ) → Option SessionClaim → Type 0
MayBy (hows.Write old) opens seen s tx key new owner = IsWritten opens seen tx key owner × (old ≡ live (leaf_rows s.rows) key) × IsTrue (is_change old new)
MayBy (hows.Apply old operator argument) opens seen s tx key new owner =
    IsWritten opens seen tx key owner × (old ≡ live (leaf_rows s.rows) key) × (new ≡ meaning operator old argument) × IsTrue (is_some new)
MayBy (hows.Undo undo_next) opens seen s tx key new owner = IsTrue (is_number tx) × IsTrue (is_lsn_or_none undo_next) × IsUndone opens seen (undo_of tx key new undo_next) owner

-- after what was seen the change may be asked for, of a leaf of this state
abbrev pub MayChange : (List Record → Type 0) → List Entry → PageState → Change → Option SessionClaim → Type 0
MayChange opens seen s c owner = MayBy c.how opens seen s c.tx c.key c.new owner
