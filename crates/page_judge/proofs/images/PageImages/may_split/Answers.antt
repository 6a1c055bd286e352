use Rattle.std.proofs.Common.{sym, ◌∙◌}
use Rattle.wal_record.specs.Images.{image}
use Rattle.wal_record.specs.Legal.{MaySplit}
use Rattle.page_judge.specs.Images.{AreImagesOf}
use Rattle.page_judge.proofs.Leading.{on_none, on_some}
use Rattle.page_judge.proofs.images.PageImages.may_split.Goals as goal

pub returns-in-Some : goal.returns-in-Some
unfolding AreImagesOf
returns-in-Some c = λ log k.
    let may = on_some (MaySplit c.args.split.now) (image log c.args.split.now.page) c.in-Some.image.now (k c.args.split.now.page ∙ sym c.in-Some.ensures) in
    (λ t. may.1 (c.may_split.ensures.0 t), λ h. c.may_split.ensures.1 (may.0 h))

pub returns-in-None : goal.returns-in-None
unfolding AreImagesOf
returns-in-None c = λ log k. on_none (MaySplit c.args.split.now) (image log c.args.split.now.page) (k c.args.split.now.page ∙ sym c.in-None.ensures)
