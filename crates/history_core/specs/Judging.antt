-- What a judge keeps of a legal history.
use Rattle.std.specs.Prelude.{◌≡◌, ◌<◌, ◌++◌, ◌∷◌, [], ℕ, ◌+◌, List, length, map, Option, Some, None, Bool, true, false, ◌==◌}
use Rattle.wal_record.specs.Chains.{pages}
use Rattle.wal_record.specs.Checkpoints.{limit_of}
use Rattle.wal_record.specs.History.{life_log}
use Rattle.wal_record.specs.Legal.{FollowsSplit, IsAllowed, IsLegal, RecordRule, split_leaf, untold}
use Rattle.wal_record.specs.OpenWrites.{losers, pending}
use Rattle.wal_record.specs.Sound.{AreLawful}
use Rattle.wal_record.specs.declared.analysis.Loser.{Loser}
use Rattle.wal_record.specs.declared.entry.Entry.{Entry}
use Rattle.wal_record.specs.declared.entry.Entry.TheVariants.{Acked, Began, Lock, Rec}
use Rattle.wal_record.specs.declared.record.Record.{Record}
use Rattle.wal_record.specs.declared.record.Record.TheVariants as kinds
use Rattle.phase_judge.specs.Phases.{ArePhasesOf}
use Rattle.lock_judge.specs.Taken.{AreTaken}
use Rattle.page_judge.specs.Images.{IsMadeBy}
use Rattle.page_judge.specs.declared.changed.Changed.{Changed}
use Rattle.record_judge.specs.Judging.{HasContents, IsRecordJudgeOf}
use Rattle.history_core.specs.declared.judge.Judge.{Judge}

abbrev pub txs_of : List Loser → List ℕ
txs_of xs = map (λ (x : Loser). x.tx) xs

-- the judge has come to the end of this history, which is legal after a lawful opening log
pub record IsJudgeOf (opening : List Record) (h : List Entry) (j : Judge) : Type 0 where
  pub sound : AreLawful opening
  pub legal : IsLegal opening h
  pub phases : ArePhasesOf opening h j.phases
  pub locks : AreTaken h j.locks
  pub log : IsRecordJudgeOf (life_log opening h) j.log
  pub losers : txs_of j.losers ≡ losers opening
  pub told : j.untold ≡ untold h
  pub split : j.split ≡ split_leaf opening h

-- ---- kinds of entries

abbrev pub is_record : Entry → Bool
is_record (Rec lsn r) = true
is_record _ = false

abbrev pub is_lock : Entry → Bool
is_lock (Lock tx range mode) = true
is_lock _ = false

-- by the entry a transaction begins, or its commit is acknowledged
abbrev pub moves : Entry → Bool
moves (Began session tx) = true
moves (Acked session tx) = true
moves _ = false

abbrev pub is_split : Record → Bool
is_split (kinds.Split x) = true
is_split _ = false

abbrev pub is_among : ℕ → Loser → Bool
is_among tx x = x.tx == tx

-- true where the entry is legal there, and the judge has come behind it; false where it is not, and nothing has changed
abbrev pub IsJudged : List Record → List Entry → Entry → Judge → Judge → Bool → Type 0
IsJudged opening h e old new true = IsAllowed opening h e × IsJudgeOf opening (h ++ e ∷ []) new
IsJudged opening h e old new false = (IsAllowed opening h e → ⊥) × (new ≡ old)

-- all but the log allows the record
pub record MayComeNext (opening : List Record) (h : List Entry) (lsn : ℕ) (r : Record) : Type 0 where
  pub told : untold h ≡ None
  pub place : lsn ≡ length (life_log opening h) + 1
  pub split : FollowsSplit (split_leaf opening h) (Rec lsn r)
  pub rule : RecordRule opening h r

-- the record is allowed there, and this is what it makes of the pages that it names; or it isn't
abbrev pub IsVerdictOn : List Record → List Entry → ℕ → Record → Option Changed → Type 0
IsVerdictOn opening h lsn r None = IsAllowed opening h (Rec lsn r) → ⊥
IsVerdictOn opening h lsn r (Some x) = IsAllowed opening h (Rec lsn r) × IsMadeBy (life_log opening h) r x

-- its phases and its contents have come to the end of this history
pub record HasComeTo (opening : List Record) (h : List Entry) (j : Judge) : Type 0 where
  pub phases : ArePhasesOf opening h j.phases
  pub contents : HasContents (life_log opening h) j.log

-- so many pages and pending writes stand, and a page and a write more don't
abbrev pub IsFull : List Record → ℕ → ℕ → Type 0
IsFull log told_pages told_pending = (told_pages ≡ pages log) × (told_pending ≡ pending log) × (limit_of log < pages log + pending log + 2)

-- ---- opening logs

-- the judge of the empty history behind this log, which is lawful; or it isn't
abbrev pub IsOpened : List Record → Option Judge → Type 0
IsOpened opening None = AreLawful opening → ⊥
IsOpened opening (Some j) = IsJudgeOf opening [] j
