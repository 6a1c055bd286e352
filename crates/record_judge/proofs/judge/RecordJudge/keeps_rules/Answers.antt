use Rattle.std.proofs.Common.{◌≡◌, true, false, sym, ◌∙◌}
use Rattle.record_judge.proofs.judge.RecordJudge.keeps_rules.Goals as goal

pub returns-then-keeps_place : goal.returns-then-keeps_place
returns-then-keeps_place g c = λ log k other.
    let place = (c.keeps_place.ensures log k other).0 c.if-keeps_place.true in
    let most = c.keeps_most.ensures log k in (
      λ t. let p = most.0 t in record { first = place.0; chain = p.0.0; heads = p.0.1; value = p.1.0; room = p.1.1; upkeep = place.1 },
      λ rules. most.1 ((rules.chain, rules.heads), (rules.value, rules.room)),
    )

pub returns-else-keeps_place : goal.returns-else-keeps_place
returns-else-keeps_place g c = λ log k other.
    (λ t. absurd (cc t), λ rules. (let both : true ≡ false = sym ((c.keeps_place.ensures log k other).1 (rules.first, rules.upkeep)) ∙ c.if-keeps_place.false in absurd (cc both)))
