use Rattle.std.proofs.Common.{[], ◌∷◌}
use Rattle.rights_tests.proofs.lives.Journal.enter.Given as goal

abbrev pub ghosts-add : goal.ghosts-add
ghosts-add g a = record { entries = a.entry.now ∷ [] }
