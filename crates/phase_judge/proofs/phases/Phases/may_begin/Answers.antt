use Rattle.std.proofs.Common.{◌∙◌, sym, ◌<◌, ◌≤◌, arith}
use Rattle.std.proofs.lemmas.Bool.Decides.{nat_tests}
use Rattle.phase_judge.proofs.Reading.{begin_exact, no_room, not_next}
use Rattle.phase_judge.proofs.phases.Phases.may_begin.Goals as goal
use Rattle.phase_judge.proofs.phases.Phases.may_begin.Goals.{then-is_next, else-is_next}

pub returns-then-self-lt-MOST_ACTIVE : goal.returns-then-self-lt-MOST_ACTIVE
returns-then-self-lt-MOST_ACTIVE c = λ opening h k told. elim c.if-is_next.branch [
  | then-is_next w ↦ begin_exact opening h _ k told c.args.session c.args.tx _ (c.is_next.ensures.0 w.if-is_next.true)
      (let room : c.args.self.now.live < 64 = (let e = w.value-is in let t = c.if-self-lt-MOST_ACTIVE.true in grind (arith, nat_tests)) in room) (c.is_free.ensures opening h k)
  | else-is_next w ↦ (let e = sym w.value-is ∙ c.if-self-lt-MOST_ACTIVE.true in absurd (cc e))
]

pub returns-else-self-lt-MOST_ACTIVE : goal.returns-else-self-lt-MOST_ACTIVE
returns-else-self-lt-MOST_ACTIVE c = λ opening h k told. elim c.if-is_next.branch [
  | then-is_next w ↦ no_room opening h _ k told c.args.session c.args.tx _ c.if-self-lt-MOST_ACTIVE.false
      (let full : 64 ≤ c.args.self.now.live = (let e = w.value-is in let t = c.if-self-lt-MOST_ACTIVE.false in grind (arith, nat_tests)) in full)
  | else-is_next w ↦ not_next opening h _ k told c.args.session c.args.tx _ c.if-self-lt-MOST_ACTIVE.false
      (λ is. let e = sym w.if-is_next.false ∙ c.is_next.ensures.1 is in absurd (cc e))
]
