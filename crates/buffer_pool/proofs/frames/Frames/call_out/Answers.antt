use Rattle.std.proofs.Common.{◌<◌, sym, subst, length}
use Rattle.buffer_pool.specs.Tables.{Table}
use Rattle.buffer_pool.proofs.Changes.{kept_moved}
use Rattle.buffer_pool.proofs.frames.Frames.call_out.Goals as goal

pub invariant_of-self-2 : goal.invariant_of-self-2
invariant_of-self-2 g c =
    let at = c.in_ok-place.ensures.inside in
    kept_moved _ _ _ _ _ _ at.0 (subst (λ (t : Table). c.in_ok-place.place < length t.frames) (sym c.self.view_is) at.1) c.take_right.ensures.out c.self.invariant tt tt
