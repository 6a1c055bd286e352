use Rattle.untold_journal.proofs.Upkeep.{kept_empty}
use Rattle.untold_journal.proofs.untold.Untold.new.Goals as goal

pub invariant_of-result : goal.invariant_of-result
invariant_of-result g c = kept_empty g.N.Life.opens _ _ _ _ _ c.requires.untold c.requires.empty.0 c.requires.counted.0 c.requires.counted.1 c.requires.empty.1 c.requires.empty.2
