use Rattle.lock_judge.specs.Taken.{AreTaken, held_in}
use Rattle.lock_judge.proofs.Taking.{still_entry}
use Rattle.lock_judge.proofs.taken.TakenLocks.note.Goals as goal

pub returns-in_default-clause-ok : goal.returns-in_default-clause-ok
unfolding AreTaken
returns-in_default-clause-ok c = λ h k. still_entry (held_in c.args.self.now.held) h k c.args.entry.now c.in_default.not-Lock c.in_default.not-Rec
