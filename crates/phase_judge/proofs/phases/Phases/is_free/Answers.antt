use Rattle.std.proofs.Common.{sym, ap, ◌∙◌}
use Rattle.wal_record.specs.History.{is_over, last_begun}
use Rattle.phase_judge.specs.Phases.{phase_of}
use Rattle.phase_judge.proofs.Reading.{free_none, free_some, last_is, stage_is}
use Rattle.phase_judge.proofs.phases.Phases.is_free.Goals as goal

pub returns-in-Some : goal.returns-in-Some
returns-in-Some c = λ opening h k. free_some h (last_begun h c.args.session) c.in-Some.tx _
    (sym (last_is opening h _ k c.args.session) ∙ sym c.last_begun.ensures ∙ c.in-Some.is)
    (c.is_over.ensures ∙ ap (λ x. is_over (phase_of x.stage)) c.started.ensures ∙ ap is_over (stage_is opening h _ k c.in-Some.tx))

pub returns-in-None : goal.returns-in-None
returns-in-None c = λ opening h k. free_none h (last_begun h c.args.session) (sym (last_is opening h _ k c.args.session) ∙ sym c.last_begun.ensures ∙ c.in-None.is)
