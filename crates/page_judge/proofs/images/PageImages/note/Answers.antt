use Rattle.std.proofs.Common.{ap, ◌∙◌}
use Rattle.page_judge.specs.Images.{AreImagesOf, changed_to, state_in}
use Rattle.page_judge.proofs.Making.{images_behind}
use Rattle.page_judge.proofs.images.PageImages.note.Goals as goal

pub returns : goal.returns
unfolding AreImagesOf
returns c = λ log r k made. images_behind log r c.args.changed.first c.args.changed.second made.0 made.1 (state_in c.args.self.now.places) (state_in c.put-2.new.places) k
    (λ p. c.put-2.ensures.same p ∙ ap (changed_to c.args.changed.second p) (c.put.ensures.same p))
