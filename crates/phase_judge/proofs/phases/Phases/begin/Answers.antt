use Rattle.std.proofs.Common.{refl, ap}
use Rattle.std.proofs.Common.{arith, Some}
use Rattle.phase_judge.specs.Phases.{ArePhasesOf, is_by, last_in, phase_of, started_in}
use Rattle.phase_judge.specs.declared.stage.Stage.TheVariants as stages
use Rattle.phase_judge.specs.declared.stage.Started.{Started}
use Rattle.phase_judge.proofs.Moving.{kept_as, kept_began, on_err, put_last, put_owner, put_phase}
use Rattle.phase_judge.proofs.phases.Phases.begin.Goals as goal

pub returns-in_err-make_place-clause-err : goal.returns-in_err-make_place-clause-err
unfolding ArePhasesOf
returns-in_err-make_place-clause-err c = λ opening h k. on_err _ (kept_as opening h _ _ _ _ _ k _ _ _ (λ t. refl) (λ s t. refl) c.make_place.ensures.same)

pub returns-in_err-put-clause-err : goal.returns-in_err-put-clause-err
unfolding ArePhasesOf
returns-in_err-put-clause-err c = λ opening h k. on_err _ (kept_as opening h _ _ _ _ _ k _ _ _
    (λ t. ap (λ (x : Started). phase_of x.stage) (c.in_err-put.ensures.err t)) (λ s t. ap (λ (x : Started). is_by s x.session) (c.in_err-put.ensures.err t)) c.make_place.ensures.same)

pub returns-clause-ok : goal.returns-clause-ok
unfolding ArePhasesOf
returns-clause-ok c = λ opening h k m.
    let now : Started = record { session = Some c.args.session; stage = stages.Live } in
    let old = started_in c.args.self.now.transactions in
    let new = started_in c.put.new.transactions in
    kept_began opening h _ _ _ _ _ k c.args.session c.args.tx m _ _ _ _
    (put_phase old new c.args.tx now c.in_ok-put.ensures.ok)
    (put_owner old new c.args.tx now c.in_ok-put.ensures.ok)
    (put_last (last_in c.args.self.now.sessions) (last_in c.make_place.new.sessions) (last_in c.set_last.new.sessions) c.args.session c.args.tx c.make_place.ensures.same c.set_last.ensures)
    (let few = k.few in let sum = c.saturating_add-self.ensures in omega (arith, few, sum))
