use Rattle.std.proofs.Common.{◌≡◌, true, false, sym, ◌∙◌}
use Rattle.std.proofs.lemmas.Result.{IfOk-weaker}
use Rattle.record_judge.proofs.Deciding.{ok_all, rules_of, some_all, verdict_by}
use Rattle.record_judge.proofs.judge.RecordJudge.lawful_other.Goals as goal

pub returns-then-not-has_spelling-clause-verdict : goal.returns-then-not-has_spelling-clause-verdict
returns-then-not-has_spelling-clause-verdict g c = λ log k lawful. (let both : true ≡ false = sym (c.has_spelling.ensures.all c.requires.kind lawful.fields) ∙ c.if-not-has_spelling.true in absurd (cc both))

pub returns-then-not-keeps_rules-clause-verdict : goal.returns-then-not-keeps_rules-clause-verdict
returns-then-not-keeps_rules-clause-verdict g c = λ log k lawful. (let both : true ≡ false = sym ((c.keeps_rules.ensures log k c.requires.kind).1 (rules_of log c.args.entered.now lawful)) ∙ c.if-not-keeps_rules.true in absurd (cc both))

pub returns-clause-spelled : goal.returns-clause-spelled
returns-clause-spelled g c = ok_all c.placed.result _ (λ found. some_all found _ (λ x. c.has_spelling.ensures.keeps c.if-not-has_spelling.false))

pub returns-clause-verdict : goal.returns-clause-verdict
returns-clause-verdict g c = λ log k. IfOk-weaker c.placed.result _ _
    (λ found placed. verdict_by log c.args.entered.now found (c.has_spelling.ensures.keeps c.if-not-has_spelling.false) ((c.keeps_rules.ensures log k c.requires.kind).0 c.if-not-keeps_rules.false) placed)
    (c.placed.ensures log k)
