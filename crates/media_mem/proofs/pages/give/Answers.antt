use Rattle.std.proofs.Common.{inl, inr, ⊎_elim, ◌∙◌}
use Rattle.media_mem.proofs.Paging.{lost_at, newest_at}
use Rattle.media_mem.proofs.pages.give.Goals as goal

pub returns-then-page-slots-clause-image : goal.returns-then-page-slots-clause-image
returns-then-page-slots-clause-image c =
    ⊎_elim (λ is. inl (newest_at c.args.slots.now c.args.page c.index-slots-page.result c.if-page-slots.true c.index-slots-page.is ∙ is)) (λ fails. inr fails) c.give_slot.ensures.image

pub returns-then-page-slots-clause-damaged : goal.returns-then-page-slots-clause-damaged
returns-then-page-slots-clause-damaged c lost = c.give_slot.ensures.damaged (lost_at c.args.slots.now c.args.page c.index-slots-page.result c.if-page-slots.true c.index-slots-page.is lost)
