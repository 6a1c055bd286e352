use Rattle.std.proofs.Common.{[], ◌∷◌}
use Rattle.life_history.specs.Kept.{commit_entry}
use Rattle.life_history.proofs.history.History.enter_commit.Given as goal

abbrev pub ghosts-enter_record : goal.ghosts-enter_record
ghosts-enter_record g a = record { entries = commit_entry a._lsn a.s.now.tx a._prev ∷ [] }
