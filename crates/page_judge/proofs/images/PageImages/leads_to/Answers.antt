use Rattle.std.proofs.Common.{refl, sym, ◌∙◌}
use Rattle.wal_record.specs.Images.{CanTakeChild, image}
use Rattle.wal_record.specs.Sound.{LeadsTo}
use Rattle.page_judge.specs.Images.{AreImagesOf}
use Rattle.page_judge.proofs.Leading.{on_none, on_some}
use Rattle.page_judge.proofs.images.PageImages.leads_to.Goals as goal

pub returns-in-Some : goal.returns-in-Some
unfolding AreImagesOf
returns-in-Some c = λ log k can.
    let found = k c.args.adopt.now.parent ∙ sym c.in-Some.ensures in
    let here = (on_some (CanTakeChild c.args.adopt.now) (image log c.args.adopt.now.parent) c.in-Some.image.now found).0 can in
    let leads = on_some (LeadsTo c.args.adopt.now.key c.args.adopt.now.fosterer) (image log c.args.adopt.now.parent) c.in-Some.image.now found in
    let is = c.leads_to.ensures c.args.adopt.now refl here in
    (λ t. leads.1 (is.0 t), λ h. is.1 (leads.0 h))

pub returns-in-None : goal.returns-in-None
unfolding AreImagesOf
returns-in-None c = λ log k can. on_none (LeadsTo c.args.adopt.now.key c.args.adopt.now.fosterer) (image log c.args.adopt.now.parent) (k c.args.adopt.now.parent ∙ sym c.in-None.ensures)
