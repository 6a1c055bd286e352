use Rattle.std.proofs.Common.{ap, ◌∙◌}
use Rattle.wal_record.specs.History.{phase, is_live}
use Rattle.phase_judge.specs.Phases.{phase_of}
use Rattle.phase_judge.proofs.Reading.{live_exact, stage_is}
use Rattle.phase_judge.proofs.phases.Phases.is_live.Goals as goal

pub returns : goal.returns
returns c = λ opening h k. live_exact _ (phase h c.args.tx) (c.is_live.ensures ∙ ap (λ x. is_live (phase_of x.stage)) c.started.ensures ∙ ap is_live (stage_is opening h _ k c.args.tx))
