use Rattle.std.proofs.Common.{[], ◌∷◌}
use Rattle.wal_record.specs.declared.entry.Entry.TheVariants as entries
use Rattle.journal.proofs.journal.Journal.decline.Given as goal

abbrev pub ghosts-enter_declined : goal.ghosts-enter_declined
ghosts-enter_declined g a = record { entries = entries.Declined a.s.now.session a.s.now.tx a.request.now a.why.now ∷ [] }
