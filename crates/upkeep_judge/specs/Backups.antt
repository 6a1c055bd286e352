-- The last backup of a log, as it is kept.
use Rattle.std.specs.Prelude.{◌≡◌, ℕ, suc, List, Bool, false, ◌==◌, ◌||◌, IsTrue}
use Rattle.std.specs.List.{list_any}
use Rattle.wal_record.specs.Upkeep.{backs_up, last_backup}
use Rattle.wal_record.specs.declared.record.Record.{Record}
use Rattle.upkeep_judge.specs.declared.backups.Backups.{Backups}

abbrev pub is_segment : ℕ → ℕ → Bool
is_segment segment s = s == segment

-- its number, 0 for none, and the segments that it has
pub record AreKept (log : List Record) (number : ℕ) (segments : List ℕ) : Type 0 where
  pub last : number ≡ last_backup log
  pub has : (segment : ℕ) → list_any (is_segment segment) segments ≡ list_any (backs_up number segment) log

unfoldable pub AreBackupsOf : List Record → Backups → Type 0
AreBackupsOf log x = AreKept log x.number x.segments

-- the backup goes on with the last one, or begins the next one, and doesn't have the segment yet
abbrev pub IsFresh : List Record → ℕ → ℕ → Type 0
IsFresh log backup segment = (list_any (backs_up backup segment) log ≡ false) × IsTrue ((backup == last_backup log) || (backup == suc (last_backup log)))
