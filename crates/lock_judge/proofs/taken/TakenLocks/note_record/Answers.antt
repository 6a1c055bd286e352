use Rattle.lock_judge.specs.Taken.{AreTaken, held_in}
use Rattle.lock_judge.proofs.Taking.{still_record}
use Rattle.lock_judge.proofs.taken.TakenLocks.note_record.Goals as goal

pub returns-in_default : goal.returns-in_default
unfolding AreTaken
returns-in_default c = λ h lsn k. still_record (held_in c.args.self.now.held) h k lsn c.args.entered.now c.in_default.not-Commit c.in_default.not-End
