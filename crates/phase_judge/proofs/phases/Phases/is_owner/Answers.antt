use Rattle.std.proofs.Common.{ap, ◌∙◌}
use Rattle.phase_judge.specs.Phases.{is_by}
use Rattle.phase_judge.proofs.Reading.{owner_is}
use Rattle.phase_judge.proofs.phases.Phases.is_owner.Goals as goal

pub returns : goal.returns
returns c = λ opening h k. c.is_by.ensures ∙ ap (λ x. is_by c.args.session x.session) c.started.ensures ∙ owner_is opening h _ k c.args.session c.args.tx
