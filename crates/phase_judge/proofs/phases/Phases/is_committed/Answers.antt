use Rattle.std.proofs.Common.{ap, ◌∙◌}
use Rattle.wal_record.specs.History.{phase}
use Rattle.phase_judge.specs.Phases.{phase_of, is_committed}
use Rattle.phase_judge.proofs.Reading.{committed_exact, stage_is}
use Rattle.phase_judge.proofs.phases.Phases.is_committed.Goals as goal

pub returns : goal.returns
returns c = λ opening h k. committed_exact _ (phase h c.args.tx) (c.is_committed.ensures ∙ ap (λ x. is_committed (phase_of x.stage)) c.started.ensures ∙ ap is_committed (stage_is opening h _ k c.args.tx))
