use Rattle.std.proofs.Common.{◌∙◌, ap, List, ℕ}
use Rattle.std.specs.Prelude.{Some}
use Rattle.media_mem.proofs.Paging.{newest_set, newest_others, spoiled_others}
use Rattle.media_mem.proofs.pages.put_slot.Goals as goal

pub returns-clause-put : goal.returns-clause-put
returns-clause-put c = newest_set c.reach.new.slots.items c.args.page _ c.in_ok-reach.ensures.there ∙ ap (λ (l : List ℕ). Some l) c.in_ok-image.ensures.ok

pub returns-clause-others : goal.returns-clause-others
returns-clause-others c p ne = newest_others c.reach.new.slots.items c.args.page p _ ne ∙ c.reach.ensures.newest p

pub returns-clause-spoiled : goal.returns-clause-spoiled
returns-clause-spoiled c p ne lost = spoiled_others c.reach.new.slots.items c.args.page p _ ne (c.reach.ensures.spoiled p lost)
