use Rattle.std.proofs.Common.{[], ◌∷◌}
use Rattle.life_history.specs.Kept.{end_entry}
use Rattle.life_history.proofs.history.History.enter_end.Given as goal

abbrev pub ghosts-enter_record : goal.ghosts-enter_record
ghosts-enter_record g a = record { entries = end_entry a._lsn a.s.now.tx a._prev ∷ [] }
