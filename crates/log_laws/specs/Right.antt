-- What a life so far owes, whatever its commands and its pages: a legal history, serial, of which a stop leaves the
-- first transactions.
use Rattle.std.specs.Prelude.{◌≡◌, ℕ, List, [], ◌∷◌, ◌++◌, take, Some, true, false, ◌==◌}
use Rattle.std.specs.List.{list_any}
use Rattle.std.specs.Option.{option_map}
use Rattle.wal_record.specs.Contents.{committed_contents}
use Rattle.wal_record.specs.Checkpoints.{commits}
use Rattle.wal_record.specs.History.{log_of, life_log}
use Rattle.wal_record.specs.Steps.{Finished, committed_transactions}
use Rattle.wal_record.specs.Serial.{Result, serial, all_said}
use Rattle.wal_record.specs.Legal.{IsLegal}
use Rattle.wal_record.specs.Sound.{HasRoom}
use Rattle.wal_record.specs.Left.{is_commit_of, acknowledges, IsLeft}
use Rattle.wal_record.specs.declared.record.Record.{Record}
use Rattle.wal_record.specs.declared.record.Record.TheVariants as kinds
use Rattle.wal_record.specs.declared.entry.Entry.{Entry}
use Rattle.log_laws.specs.Beginnings.{is_commit}

-- the log of a fresh store with this limit
abbrev pub first_log : ℕ → List Record
first_log limit = kinds.Format (record { limit = limit }) ∷ []

-- the serial run of the committed transactions has the replies that were said, and leaves the committed
-- contents
abbrev pub IsSerial : List Record → List Entry → Type 0
IsSerial opening h = serial (committed_contents opening) (committed_transactions h) ≡ Some (record { replies = all_said (committed_transactions h); contents = committed_contents (life_log opening h) })

-- what a stop left, `own`, has the map after the first committed transactions, as many as it holds
-- commits, each acknowledged one among them
pub record IsFirst (opening : List Record) (h : List Entry) (own : List Record) : Type 0 where
  pub contents : option_map (λ (r : Result). r.contents) (serial (committed_contents opening) (take (commits own) (committed_transactions h))) ≡ Some (committed_contents (opening ++ own))
  pub acknowledged : (t : ℕ) → list_any (acknowledges t) h ≡ true → list_any (λ (f : Finished). f.tx == t) (take (commits own) (committed_transactions h)) ≡ true

-- a beginning of the life's own records that has the commit of each acknowledged transaction
pub record IsBeginning (opening : List Record) (h : List Entry) (own : List Record) : Type 0 where
  pub lost : List Record
  pub whole : log_of h ≡ own ++ lost
  pub acknowledged : (t : ℕ) → list_any (acknowledges t) h ≡ true → list_any (is_commit_of t) (opening ++ own) ≡ true

-- a life so far, and what a stop may leave of it
pub record IsRight (opening : List Record) (h : List Entry) : Type 0 where
  pub legal : IsLegal opening h
  pub serial : IsSerial opening h
  -- a stop may leave each beginning that has its room and the acknowledged commits
  pub left : (own : List Record) → IsBeginning opening h own → HasRoom (opening ++ own) → IsLeft opening h own
  -- so it may lose records behind the last commit, where that leaves room
  pub behind : (own lost : List Record) → log_of h ≡ own ++ lost → list_any is_commit lost ≡ false → HasRoom (opening ++ own) → IsLeft opening h own
  -- and all that it may leave has the first transactions
  pub first : (own : List Record) → IsLeft opening h own → IsFirst opening h own
