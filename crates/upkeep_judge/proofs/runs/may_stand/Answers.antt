use Rattle.std.proofs.Common.{◌≡◌, true, false, sym, ◌∙◌}
use Rattle.upkeep_judge.proofs.Spans.{rule_by, rule_of}
use Rattle.upkeep_judge.proofs.runs.may_stand.Goals as goal

pub returns-then-is_numbered : goal.returns-then-is_numbered
returns-then-is_numbered c = λ log is last next.
    let all = c.suits.ensures log is in (
      λ t. rule_by log c.args.runs.now c.args.last c.args.next c.args.done.now is last next (c.is_numbered.ensures.0 c.if-is_numbered.true) (all.0 t),
      λ rule. all.1 (rule_of log c.args.runs.now c.args.last c.args.next c.args.done.now is last next rule).1,
    )

pub returns-else-is_numbered : goal.returns-else-is_numbered
returns-else-is_numbered c = λ log is last next. (
  λ t. absurd (cc t),
  λ rule. (let both : true ≡ false = sym (c.is_numbered.ensures.1 (rule_of log c.args.runs.now c.args.last c.args.next c.args.done.now is last next rule).0) ∙ c.if-is_numbered.false in absurd (cc both)),
)
