use Rattle.std.proofs.Common.{ap, ◌∙◌}
use Rattle.phase_judge.specs.Phases.{phase_of}
use Rattle.phase_judge.proofs.Reading.{stage_is}
use Rattle.phase_judge.proofs.phases.Phases.stage.Goals as goal

pub returns : goal.returns
returns c = λ opening h k. ap (λ x. phase_of x.stage) c.started.ensures ∙ stage_is opening h _ k c.args.tx
