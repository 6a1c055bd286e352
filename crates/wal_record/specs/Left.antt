-- What a stop may leave of a life's log, and lives one after the other.
use Rattle.std.specs.Prelude.{◌≡◌, ℕ, List, [], ◌∷◌, ◌++◌, take, Bool, true, false, ◌==◌}
use Rattle.std.specs.List.{list_any}
use Rattle.wal_record.specs.Checkpoints.{commits}
use Rattle.wal_record.specs.Sound.{IsSound}
use Rattle.wal_record.specs.History.{log_of}
use Rattle.wal_record.specs.Steps.{Finished, committed_transactions}
use Rattle.wal_record.specs.Legal.{IsLegal}
use Rattle.wal_record.specs.declared.record.Record.{Record}
use Rattle.wal_record.specs.declared.record.Record.TheVariants as kinds
use Rattle.wal_record.specs.declared.entry.Entry.{Entry}
use Rattle.wal_record.specs.declared.entry.Entry.TheVariants.{Acked}

abbrev pub is_commit_of : ℕ → Record → Bool
is_commit_of t (kinds.Commit c) = c.tx == t
is_commit_of t _ = false

abbrev pub acknowledges : ℕ → Entry → Bool
acknowledges t (Acked session tx) = tx == t
acknowledges t _ = false

-- the opening log with the first records of the life, `own`: sound, and with each acknowledged commit
pub record IsLeft (opening : List Record) (h : List Entry) (own : List Record) : Type 0 where
  pub lost : List Record
  pub whole : log_of h ≡ own ++ lost
  pub sound : IsSound (opening ++ own)
  pub acknowledged : (t : ℕ) → list_any (acknowledges t) h ≡ true → list_any (is_commit_of t) (opening ++ own) ≡ true

-- ---- lives

-- a life's history, and what its stop left of its own records
pub record Life : Type 0 where
  pub history : List Entry
  pub own : List Record

-- each life opens what the one before it left
abbrev pub AreLives : List Record → List Life → Type 0
AreLives opening [] = Unit {0}
AreLives opening (l ∷ ls) = IsLegal opening l.history × IsLeft opening l.history l.own × AreLives (opening ++ l.own) ls

abbrev pub last_log : List Record → List Life → List Record
last_log opening [] = opening
last_log opening (l ∷ ls) = last_log (opening ++ l.own) ls

-- the committed transactions that the stops left
abbrev pub kept_of : List Life → List Finished
kept_of [] = []
kept_of (l ∷ ls) = take (commits l.own) (committed_transactions l.history) ++ kept_of ls
