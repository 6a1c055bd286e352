-- What holds of the beginnings of logs and histories, and what a record leaves.
use Rattle.std.specs.Prelude.{◌≡◌, ◌≤◌, ℕ, List, [], ◌∷◌, ◌++◌, filter, Contains, None, Bool, true, false}
use Rattle.wal_record.specs.Chains.{head, is_link_of, link_of}
use Rattle.wal_record.specs.OpenWrites.{open_writes}
use Rattle.wal_record.specs.Contents.{current, committed_contents}
use Rattle.wal_record.specs.Sound.{AreLawful, HasRoom, IsSound}
use Rattle.wal_record.specs.Legal.{IsLegal}
use Rattle.wal_record.specs.declared.record.Record.{Record}
use Rattle.wal_record.specs.declared.record.Record.TheVariants as kinds
use Rattle.wal_record.specs.declared.entry.Entry.{Entry}

-- the records that name the transaction
abbrev pub records_of : ℕ → List Record → List Record
records_of t log = filter (λ r. is_link_of t (link_of r)) log

abbrev pub is_commit : Record → Bool
is_commit (kinds.Commit c) = true
is_commit _ = false

pub record BeginningLaw (log rest : List Record) : Type 0 where
  -- a beginning of a lawful log is lawful, also one between the split of a leaf and the undo that it made room for
  pub lawful : AreLawful (log ++ rest) → AreLawful log
  -- a beginning of a sound log that has kept its room is sound
  pub sound : IsSound (log ++ rest) → HasRoom log → IsSound log
  -- page heads never fall
  pub heads : (p : ℕ) → head log p ≤ head (log ++ rest) p

-- a beginning of a legal history is legal
pub record BeginningOfHistoryLaw (opening : List Record) (h rest : List Entry) : Type 0 where
  pub legal : IsLegal opening (h ++ rest) → IsLegal opening h

-- the open writes of a transaction are among its records
pub record OwnWritesLaw (log : List Record) (t : ℕ) : Type 0 where
  pub among : (w : Record) → Contains (open_writes log t) w → Contains (records_of t log) w

-- only a commit changes the committed contents
pub record CommitsLaw (log : List Record) (r : Record) : Type 0 where
  pub same : is_commit r ≡ false → committed_contents (log ++ r ∷ []) ≡ committed_contents log

-- a record that names no transaction, as one of the tree or of upkeep, changes neither the contents nor
-- the open writes
pub record StructureLaw (log : List Record) (r : Record) : Type 0 where
  pub current : link_of r ≡ None → current (log ++ r ∷ []) ≡ current log
  pub committed : link_of r ≡ None → committed_contents (log ++ r ∷ []) ≡ committed_contents log
  pub open_writes : link_of r ≡ None → (t : ℕ) → open_writes (log ++ r ∷ []) t ≡ open_writes log t
