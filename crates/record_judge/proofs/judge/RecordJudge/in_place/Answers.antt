use Rattle.std.proofs.Common.{◌≡◌, true, false, sym, ◌∙◌}
use Rattle.record_judge.proofs.judge.RecordJudge.in_place.Goals as goal

pub returns-then-has_place : goal.returns-then-has_place
returns-then-has_place c = λ log k all made. (all, (c.has_place.ensures log k all).0 c.if-has_place.true, made)

pub returns-else-has_place : goal.returns-else-has_place
returns-else-has_place c = λ log k all made again place. (let both : true ≡ false = sym ((c.has_place.ensures log k all).1 place) ∙ c.if-has_place.false in absurd (cc both))
