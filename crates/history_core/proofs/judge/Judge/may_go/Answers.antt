use Rattle.std.proofs.Common.{◌≡◌, true, false, sym, ◌∙◌}
use Rattle.history_core.proofs.judge.Judge.may_go.Goals as goal

pub returns-then-may_follow : goal.returns-then-may_follow
returns-then-may_follow g c = λ opening h k.
    let rule = c.keeps_own_rule.ensures opening h k in
    (λ t. ((c.may_follow.ensures opening h k).0 c.if-may_follow.true, rule.0 t), λ p. rule.1 p.1)

pub returns-else-may_follow : goal.returns-else-may_follow
returns-else-may_follow g c = λ opening h k.
    (λ t. absurd (cc t), λ p. (let both : true ≡ false = sym ((c.may_follow.ensures opening h k).1 p.0) ∙ c.if-may_follow.false in absurd (cc both)))
