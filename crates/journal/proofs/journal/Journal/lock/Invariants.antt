use Rattle.std.proofs.Common.{[], ◌∷◌}
use Rattle.wal_record.specs.declared.entry.Entry.TheVariants as entries
use Rattle.journal.proofs.journal.Journal.lock.Given as goal

abbrev pub ghosts-enter_lock : goal.ghosts-enter_lock
ghosts-enter_lock g a = record { entries = entries.Lock a.s.now.tx a.range.now a.mode ∷ [] }

abbrev pub ghosts-enter_refused : goal.ghosts-enter_refused
ghosts-enter_refused g a = record { entries = entries.Refused a.s.now.tx a.range.now a.mode a.holder ∷ [] }
