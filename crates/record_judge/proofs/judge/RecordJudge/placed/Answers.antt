use Rattle.std.proofs.Common.{subst}
use Rattle.page_judge.specs.Images.{IsChanged}
use Rattle.record_judge.proofs.judge.RecordJudge.placed.Goals as goal

pub returns-in-Some : goal.returns-in-Some
returns-in-Some g c = λ log k.
    let made = subst (IsChanged log c.args.entered.now) c.in-Some.is (c.in_ok-found.ensures log k.images) in
    c.in_place.ensures log k made.0 made.1

pub returns-in-None : goal.returns-in-None
returns-in-None g c = λ log k all place. subst (IsChanged log c.args.entered.now) c.in-None.is (c.in_ok-found.ensures log k.images) all
