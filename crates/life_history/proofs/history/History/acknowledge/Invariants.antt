use Rattle.std.proofs.Common.{[], ◌∷◌}
use Rattle.wal_record.specs.declared.entry.Entry.TheVariants as entries
use Rattle.life_history.proofs.history.History.acknowledge.Given as goal

abbrev pub ghosts-enter : goal.ghosts-enter
ghosts-enter g a = record { entries = entries.Acked a.s.now.session a.s.now.tx ∷ [] }
