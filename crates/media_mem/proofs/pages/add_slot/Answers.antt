use Rattle.std.proofs.Common.{ap, sym, subst, refl, ◌∙◌, List}
use Rattle.media_mem.specs.Slots.{IsSpoiled, Paged, newest_in}
use Rattle.media_mem.proofs.Paging.{newest_push, spoiled_push}
use Rattle.media_mem.proofs.pages.add_slot.Goals as goal

pub returns-clause-newest : goal.returns-clause-newest
returns-clause-newest c p = ap (λ (l : List Paged). newest_in l p) c.in_ok-push.ensures.items ∙ newest_push c.args.slots.now.items _ p refl

pub returns-clause-spoiled : goal.returns-clause-spoiled
returns-clause-spoiled c p lost = subst (λ (l : List Paged). IsSpoiled l p) (sym c.in_ok-push.ensures.items) (spoiled_push c.args.slots.now.items _ p refl lost)
