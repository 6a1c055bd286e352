use Rattle.std.proofs.Common.{sym, ◌∙◌}
use Rattle.page_judge.specs.Images.{AreImagesOf}
use Rattle.page_judge.proofs.images.PageImages.prepare.Goals as goal

pub returns-in_err-make_place-clause-same : goal.returns-in_err-make_place-clause-same
unfolding AreImagesOf
returns-in_err-make_place-clause-same c = λ log k p. k p ∙ sym (c.make_place.ensures.same p)

pub returns-clause-same : goal.returns-clause-same
unfolding AreImagesOf
returns-clause-same c = λ log k p. k p ∙ sym (c.make_place-2.ensures.same p ∙ c.make_place.ensures.same p)
