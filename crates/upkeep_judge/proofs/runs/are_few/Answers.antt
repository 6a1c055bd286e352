use Rattle.std.proofs.Common.{ℕ, suc, ◌+◌, ◌≤◌, subst, sym, ◌∙◌}
use Rattle.std.specs.Prelude.{◌↔◌, IsTrue}
use Rattle.upkeep_judge.proofs.Spans.{behind_length}
use Rattle.upkeep_judge.proofs.runs.are_few.Goals as goal

pub returns : goal.returns
returns c = λ log is. subst (λ (n : ℕ). IsTrue c.is_few.result ↔ (n ≤ 1024))
    ((λ i. c.count_below-below.ensures i + suc (c.count_above-above.ensures i)) ∙ sym (behind_length log c.args.runs.now c.args.done.now is)) c.is_few.ensures
