use Rattle.phase_judge.specs.Phases.{ArePhasesOf}
use Rattle.phase_judge.proofs.Moving.{still_entry}
use Rattle.phase_judge.proofs.phases.Phases.note.Goals as goal

pub returns-in_default-clause-ok : goal.returns-in_default-clause-ok
unfolding ArePhasesOf
returns-in_default-clause-ok c = λ opening h k allowed. still_entry opening h _ _ _ _ _ k c.args.entry.now c.in_default.not-Rec c.in_default.not-Acked c.in_default.not-Began
