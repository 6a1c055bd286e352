use Rattle.std.proofs.Common.{[], ◌∷◌}
use Rattle.wal_record.specs.declared.entry.Entry.TheVariants.{Repaired}
use Rattle.life_history.proofs.stand.Stand.enter_repaired.Given as goal

abbrev pub ghosts-add_repaired : goal.ghosts-add_repaired
ghosts-add_repaired g a = record { entries = Repaired a._page ∷ [] }
