use Rattle.tree_laws.proofs.NeighbourRanges as ranges
use Rattle.tree_laws.proofs.neighbours_law.Goals as goal

pub returns : goal.returns
returns c = ranges.neighbours_law
