use Rattle.lock_judge.specs.Taken.{AreTaken, held_in}
use Rattle.lock_judge.proofs.Taking.{has_less}
use Rattle.lock_judge.proofs.taken.TakenLocks.release.Goals as goal

pub returns : goal.returns
unfolding AreTaken
returns c = λ h e k r. has_less (held_in c.args.self.now.held) (held_in c.release.new.locks) h k c.args.tx e r c.release.ensures
