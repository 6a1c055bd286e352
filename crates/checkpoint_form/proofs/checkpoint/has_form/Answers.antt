use Rattle.std.proofs.Common.{◌∙◌, sym}
use Rattle.checkpoint_form.proofs.Sizes.{kept, short}
use Rattle.checkpoint_form.proofs.checkpoint.has_form.Goals as goal
use Rattle.checkpoint_form.proofs.checkpoint.has_form.Goals.{then-is_modest, else-is_modest}

pub returns-then-has_numbers-clause-keeps : goal.returns-then-has_numbers-clause-keeps
returns-then-has_numbers-clause-keeps c here =
    elim c.if-is_modest.branch [
      | then-is_modest w ↦ kept c.args.checkpoint.now (c.is_modest.ensures.modest w.if-is_modest.true) (w.has_numbers.ensures.numbers (sym w.value-is ∙ c.if-has_numbers.true)) (c.has_lists.ensures.lists here) c.fit_by_type.ensures.commits c.fit_by_type.ensures.limit c.fit_by_type.ensures.lost
      | else-is_modest w ↦ absurd (cc (sym w.value-is ∙ c.if-has_numbers.true))
    ]

pub returns-then-has_numbers-clause-size : goal.returns-then-has_numbers-clause-size
returns-then-has_numbers-clause-size c here =
    elim c.if-is_modest.branch [
      | then-is_modest w ↦ short c.args.checkpoint.now (c.is_modest.ensures.modest w.if-is_modest.true) (c.has_lists.ensures.lists here)
      | else-is_modest w ↦ absurd (cc (sym w.value-is ∙ c.if-has_numbers.true))
    ]
