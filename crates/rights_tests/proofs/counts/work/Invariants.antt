use Rattle.std.proofs.Common.{[], ◌∷◌}
use Rattle.rights_tests.proofs.counts.work.Given as goal

abbrev pub ghosts-add : goal.ghosts-add
ghosts-add g a = record { entries = a.entry ∷ [] }
