use Rattle.std.proofs.Common.{◌++◌, ap, subst, ◌∙◌, arith}
use Rattle.log_blocks.specs.LogState.{AreNumbered, LogState, lsn_behind, durable_lsn}
use Rattle.log_blocks.proofs.Walking.{next_above}
use Rattle.log_blocks.proofs.log.BlockLog.durable_lsn.Goals as goal

pub lsn_before-requires : goal.lsn_before-requires
lsn_before-requires g c = let w = c.self.invariant.whole in omega (arith, w.next_is, next_above (lsn_behind (c.self.inside.places.items ++ c.self.inside.recent)) c.self.inside.pending)

pub returns-clause-numbered : goal.returns-clause-numbered
returns-clause-numbered g c =
    let w = c.self.invariant.whole in
    subst (λ (s : LogState _). AreNumbered s) c.self.view_is (record { run = w.run; next = w.next_is })

pub returns-clause-value : goal.returns-clause-value
returns-clause-value g c =
    let w = c.self.invariant.whole in
    c.lsn_before.ensures _ w.run w.next_is (omega arith) ∙ ap (λ (s : LogState _). durable_lsn s.places) c.self.view_is
