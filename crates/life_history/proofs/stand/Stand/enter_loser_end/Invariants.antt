use Rattle.std.proofs.Common.{[], ◌∷◌}
use Rattle.life_history.specs.Kept.{end_entry}
use Rattle.life_history.proofs.stand.Stand.enter_loser_end.Given as goal

abbrev pub ghosts-add_end : goal.ghosts-add_end
ghosts-add_end g a = record { entries = end_entry a._lsn a._tx a._prev ∷ [] }
