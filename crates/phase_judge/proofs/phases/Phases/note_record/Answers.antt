use Rattle.phase_judge.specs.Phases.{ArePhasesOf}
use Rattle.phase_judge.proofs.Moving.{still_record}
use Rattle.phase_judge.proofs.phases.Phases.note_record.Goals as goal

pub returns-in_default-clause-ok : goal.returns-in_default-clause-ok
unfolding ArePhasesOf
returns-in_default-clause-ok c = λ opening h lsn k. still_record opening h _ _ _ _ _ k lsn c.args.entered.now c.in_default.not-Commit c.in_default.not-End
