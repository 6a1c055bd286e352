-- Calm lives that follow each other: a stop loses the records of the open transaction, and the next life
-- opens what is left.
use Rattle.std.specs.Prelude.{◌≡◌, ℕ, suc, List, [], ◌∷◌, ◌++◌, None, Bool, true, false, IsTrue}
use Rattle.std.specs.List.{list_any}
use Rattle.wal_record.specs.Rules.{is_limit}
use Rattle.wal_record.specs.Chains.{greatest}
use Rattle.wal_record.specs.Contents.{committed_contents}
use Rattle.wal_record.specs.History.{log_of}
use Rattle.wal_record.specs.Serial.{Serial}
use Rattle.wal_record.specs.Left.{Life, AreLives, last_log, kept_of}
use Rattle.wal_record.specs.declared.record.Record.{Record}
use Rattle.log_laws.specs.Right.{first_log}
use Rattle.life_laws.specs.Commands.{Command, Commit, CalmStanding, fresh, entries_from, standing_from, ArePossible}

abbrev pub is_commit_command : Command → Bool
is_commit_command Commit = true
is_commit_command _ = false

-- the commands of a life: those whose records its stop left, and those behind
pub record Commands : Type 0 where
  pub kept : List Command
  pub lost : List Command

abbrev pub life_of : CalmStanding → Commands → Life
life_of s c = record { history = entries_from s (c.kept ++ c.lost); own = log_of (entries_from s c.kept) }

-- what the next life begins with, over this log
abbrev pub reopened : List Record → CalmStanding → CalmStanding
reopened log s = record s { active = None; next = suc (greatest log) }

-- from this log and standing on
abbrev pub lives_from : List Record → CalmStanding → List Commands → List Life
lives_from log s [] = []
lives_from log s (c ∷ cs) =
    life_of s c ∷ lives_from (log ++ log_of (entries_from s c.kept)) (reopened (log ++ log_of (entries_from s c.kept)) (standing_from s c.kept)) cs

-- each command is possible; no transaction is open behind those that are kept, and none commits among
-- those that are lost
pub record MayStop (limit : ℕ) (s : CalmStanding) (c : Commands) : Type 0 where
  pub possible : ArePossible limit s (c.kept ++ c.lost)
  pub closed : (standing_from s c.kept).active ≡ None
  pub unfinished : list_any is_commit_command c.lost ≡ false

abbrev pub MayAllStop : ℕ → List Record → CalmStanding → List Commands → Type 0
MayAllStop limit log s [] = Unit {0}
MayAllStop limit log s (c ∷ cs) =
    MayStop limit s c × MayAllStop limit (log ++ log_of (entries_from s c.kept)) (reopened (log ++ log_of (entries_from s c.kept)) (standing_from s c.kept)) cs

-- each life is legal, and its stop may leave what the next one opens; the committed transactions that the
-- stops left, one after the other, make the committed contents of the last log
pub record AreRight (log : List Record) (ls : List Life) : Type 0 where
  pub lives : AreLives log ls
  pub serial : Serial (committed_contents log) (kept_of ls) (committed_contents (last_log log ls))

abbrev pub CalmStopsLaw : ℕ → List Commands → Type 0
CalmStopsLaw limit cs = IsTrue (is_limit limit) → MayAllStop limit (first_log limit) fresh cs → AreRight (first_log limit) (lives_from (first_log limit) fresh cs)
