use Rattle.std.proofs.Common.{[], ◌∷◌}
use Rattle.untold_journal.proofs.untold.Untold.push.Given as goal

abbrev pub ghosts-add : goal.ghosts-add
ghosts-add g a = record { entries = a.entry.now ∷ [] }
