use Rattle.std.proofs.Common.{[], ◌∷◌}
use Rattle.wal_record.specs.declared.entry.Entry.TheVariants.{Began}
use Rattle.life_history.proofs.history.History.begin.Given as goal

abbrev pub ghosts-enter : goal.ghosts-enter
ghosts-enter g a = record { entries = Began a.s.now.session a.tx ∷ [] }
