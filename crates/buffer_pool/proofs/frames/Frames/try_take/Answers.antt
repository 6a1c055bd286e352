use Rattle.std.proofs.Common.{◌<◌, ◌∙◌, sym, subst, length}
use Rattle.buffer_pool.specs.Tables.{Table}
use Rattle.buffer_pool.proofs.Changes.{kept_framed, own_page}
use Rattle.buffer_pool.proofs.frames.Frames.try_take.Goals as goal

pub invariant_of-self : goal.invariant_of-self
invariant_of-self g c =
    let at = c.in-Some.ensures.inside in
    rw c.replace.ensures.after (kept_framed _ _ _ _ at.0 (subst (λ (t : Table). c.in-Some.place < length t.frames) (sym c.self.view_is) at.1) c.self.invariant tt)

pub returns-clause-page : goal.returns-clause-page
returns-clause-page g c =
    let at = c.in-Some.ensures.inside in
    own_page _ _ _ c.index_mut.result.now c.in-Full-replace.held c.self.invariant at.0 (subst (λ (t : Table). c.in-Some.place < length t.frames) (sym c.self.view_is) at.1)
    (sym c.index_mut.ensures.value ∙ sym c.replace.ensures.value ∙ c.in-Full-replace.is)
