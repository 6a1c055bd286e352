use Rattle.std.proofs.Common.{ap, arith, length, subst}
use Rattle.log_blocks.specs.LogState.{AreNumbered, LogState}
use Rattle.log_blocks.proofs.Whole.{chain_room, blocks_room}
use Rattle.log_blocks.proofs.log.BlockLog.blocks.Goals as goal

pub overflow_add-result : goal.overflow_add-result
overflow_add-result g c =
    let w = c.self.invariant.whole in
    omega (arith, chain_room w.from _ _ w.chain, blocks_room c.self.inside.pending, w.end_is, w.fits, c.durable.ensures, ap (λ (s : LogState _). length s.places) c.self.view_is, c.len.ensures.value)

pub returns-clause-numbered : goal.returns-clause-numbered
returns-clause-numbered g c =
    let w = c.self.invariant.whole in
    subst (λ (s : LogState _). AreNumbered s) c.self.view_is (record { run = w.run; next = w.next_is })
