use Rattle.std.proofs.Common.{take, sym, ◌∙◌, subst, ap, length, ◌++◌, List, arith}
use Rattle.std.specs.Prelude.{Option}
use Rattle.log_blocks.specs.Log.{Block}
use Rattle.log_blocks.specs.Batch.{Batched, Filling, IsReady, in_open}
use Rattle.log_blocks.proofs.Ready.{last_fits, ready_moved, ready_left}
use Rattle.log_blocks.proofs.batch.Batch.move_to.Goals as goal

pub replace_last-requires-clause-size : goal.replace_last-requires-clause-size
replace_last-requires-clause-size c = last_fits c.other.inside.closed c.other.inside.last c.other.invariant.sized

pub invariant_of-self : goal.invariant_of-self
invariant_of-self c =
    let open_is = sym c.take.ensures.value ∙ c.in-Some.is in
    ready_left _ _ _ _ c.in-Some.last _ _ (subst (λ (o : Option Filling). IsReady c.self.inside.closed o c.self.inside.nodes c.self.inside.spares.items) open_is c.self.invariant)
    c.append.ensures.more c.take.ensures.after c.pass.ensures.nodes

pub invariant_of-other : goal.invariant_of-other
invariant_of-other c =
    let open_is = sym c.take.ensures.value ∙ c.in-Some.is in
    let mine = subst (λ (o : Option Filling). IsReady c.self.inside.closed o c.self.inside.nodes c.self.inside.spares.items) open_is c.self.invariant in
    let zero = ap (λ (b : Batched). b.spare) c.other.view_is ∙ c.requires.none in
    let theirs = ap (λ (b : Batched). length b.blocks) c.other.view_is in
    let ours = ap (λ (o : Option Filling). length (c.self.inside.closed ++ in_open o)) (sym open_is) ∙ ap (λ (b : Batched). length b.blocks) c.self.view_is in
    ready_moved _ _ _ _ _ _ _ _ _ _ c.in-Some.last c.other.invariant mine zero c.replace_last.ensures.last
    (c.append.ensures.kept ∙ ap (λ (l : List Block). l ++ c.self.inside.closed) c.replace_last.ensures.closed)
    (c.pass.ensures.kept ∙ ap (λ (l : List Block). l ++ take 1 c.self.inside.nodes) c.replace_last.ensures.nodes)
    (omega (arith, theirs, ours, c.requires.fits))
