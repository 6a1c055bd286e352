use Rattle.std.proofs.Common.{◌<◌, ◌∙◌, sym, subst, length}
use Rattle.buffer_pool.specs.Tables.{Table}
use Rattle.buffer_pool.proofs.Changes.{kept_moved}
use Rattle.buffer_pool.proofs.frames.Frames.send_home.Goals as goal

pub invariant_of-self : goal.invariant_of-self
invariant_of-self g c =
    let at = c.in-Some.ensures.inside in
    kept_moved _ _ _ _ _ _ (sym c.page.ensures ∙ at.0) (subst (λ (t : Table). c.in-Some.place < length t.frames) (sym c.self.view_is) at.1) c.give_right.ensures.home c.self.invariant tt c.requires.range
