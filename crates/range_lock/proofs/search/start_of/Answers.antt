use Rattle.range_lock.proofs.Conflicts.{below_start}
use Rattle.range_lock.proofs.search.start_of.Goals as goal

pub returns-in-Some : goal.returns-in-Some
returns-in-Some g c p e = c.in-Some.ensures.below p.key (below_start c.in-Some.entry c.in-Some.ensures.first p e)
