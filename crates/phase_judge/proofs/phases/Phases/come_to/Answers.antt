use Rattle.std.proofs.Common.{refl, ap, ◌∙◌}
use Rattle.phase_judge.specs.Phases.{ArePhasesOf, is_by, live_after, phase_of, started_in}
use Rattle.phase_judge.specs.declared.stage.Started.{Started}
use Rattle.phase_judge.proofs.Moving.{kept_as, kept_moved, on_err, put_phase, same_owner}
use Rattle.phase_judge.proofs.phases.Phases.come_to.Goals as goal

pub returns-in_err-put-clause-err : goal.returns-in_err-put-clause-err
unfolding ArePhasesOf
returns-in_err-put-clause-err c = λ opening h k. on_err _ (kept_as opening h _ _ _ _ _ k _ _ _
    (λ t. ap (λ (x : Started). phase_of x.stage) (c.in_err-put.ensures.err t)) (λ s t. ap (λ (x : Started). is_by s x.session) (c.in_err-put.ensures.err t)) (λ s. refl))

pub returns-clause-ok : goal.returns-clause-ok
unfolding ArePhasesOf
returns-clause-ok c = λ opening h e k m.
    let now : Started = record { session = c.started-was.result.session; stage = c.args.stage } in
    let old = started_in c.args.self.now.transactions in
    let new = started_in c.put.new.transactions in
    kept_moved opening h _ _ _ _ _ k c.args.tx (phase_of c.args.stage) e m c.requires _ _ _
    (put_phase old new c.args.tx now c.in_ok-put.ensures.ok)
    (same_owner old new c.args.tx now c.in_ok-put.ensures.ok (ap (λ (x : Started). x.session) c.started-was.ensures))
    (c.live_without-self.ensures ∙ ap (λ (x : Started). live_after c.args.self.now.live (phase_of x.stage)) c.started-was.ensures)
