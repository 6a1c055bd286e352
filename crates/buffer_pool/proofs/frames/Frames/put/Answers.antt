use Rattle.std.proofs.Common.{◌<◌, sym, ap, subst, length}
use Rattle.page_ops.specs.Hands.{Hand}
use Rattle.buffer_pool.specs.Tables.{Table}
use Rattle.buffer_pool.proofs.Changes.{kept_framed}
use Rattle.buffer_pool.proofs.frames.Frames.put.Goals as goal

pub invariant_of-self : goal.invariant_of-self
invariant_of-self g c =
    let at = c.in-Some.ensures.inside in
    kept_framed _ _ _ _ at.0 (subst (λ (t : Table). c.in-Some.place < length t.frames) (sym c.self.view_is) at.1) c.self.invariant (sym (ap (λ (h : Hand). h.page) c.held.view_is))

pub invariant_of-self-in-Some-2 : goal.invariant_of-self-in-Some-2
invariant_of-self-in-Some-2 g c =
    let at = c.in-Some.ensures.inside in
    kept_framed _ _ _ _ at.0 (subst (λ (t : Table). c.in-Some.place < length t.frames) (sym c.self.view_is) at.1) c.self.invariant (sym (ap (λ (h : Hand). h.page) c.held.view_is))
