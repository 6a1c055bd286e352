use Rattle.std.proofs.Common.{inl}
use Rattle.log_blocks.proofs.Gates.{torn_behind, written_behind, torn_gate, written_gate}
use Rattle.log_blocks.proofs.Moments.{weaker, joined}
use Rattle.log_blocks.proofs.write.write_block.Goals as goal

pub returns-in_err-put_down-clause-any_moment : goal.returns-in_err-put_down-clause-any_moment
returns-in_err-put_down-clause-any_moment g c tells only front body place is behind =
    weaker g.D.Disk.moment g.D.Disk.left_since _ _ _ _ (c.put_down.ensures.any_moment tells only)
    (λ d torn. inl (torn_behind _ _ front place _ _ d behind torn))

pub returns-in_err-put_down-2-clause-any_moment : goal.returns-in_err-put_down-2-clause-any_moment
returns-in_err-put_down-2-clause-any_moment g c tells only front body place is behind =
    let staged = written_behind _ _ front place body _ _ _ behind is (c.in_ok-put_down.ensures.written tells) in
    joined g.D.Disk.moment g.D.Disk.left_since _ _ _ _ _ _
    (c.put_down.ensures.any_moment tells only)
    (c.put_down-2.ensures.any_moment tells (c.in_ok-put_down.ensures.durable tells))
    (λ d torn. inl (torn_behind _ _ front place _ _ d behind torn))
    (λ d torn. torn_gate _ _ front place body _ d staged torn)

pub returns-clause-any_moment : goal.returns-clause-any_moment
returns-clause-any_moment g c tells only front body place is behind =
    let staged = written_behind _ _ front place body _ _ _ behind is (c.in_ok-put_down.ensures.written tells) in
    joined g.D.Disk.moment g.D.Disk.left_since _ _ _ _ _ _
    (c.put_down.ensures.any_moment tells only)
    (c.put_down-2.ensures.any_moment tells (c.in_ok-put_down.ensures.durable tells))
    (λ d torn. inl (torn_behind _ _ front place _ _ d behind torn))
    (λ d torn. torn_gate _ _ front place body _ d staged torn)

pub returns-clause-written : goal.returns-clause-written
returns-clause-written g c tells front body place is behind =
    let staged = written_behind _ _ front place body _ _ _ behind is (c.in_ok-put_down.ensures.written tells) in
    written_gate _ _ front place body _ _ staged (c.in_ok-put_down-2.ensures.written tells)

pub returns-in_err-put_down-clause-left : goal.returns-in_err-put_down-clause-left
returns-in_err-put_down-clause-left g c tells front body place is behind = inl (torn_behind _ _ front place _ _ _ behind (c.put_down.ensures.torn tells))

pub returns-in_err-put_down-2-clause-left : goal.returns-in_err-put_down-2-clause-left
returns-in_err-put_down-2-clause-left g c tells front body place is behind =
    torn_gate _ _ front place body _ _ (written_behind _ _ front place body _ _ _ behind is (c.in_ok-put_down.ensures.written tells)) (c.put_down-2.ensures.torn tells)

pub returns-clause-left : goal.returns-clause-left
returns-clause-left g c tells front body place is behind =
    torn_gate _ _ front place body _ _ (written_behind _ _ front place body _ _ _ behind is (c.in_ok-put_down.ensures.written tells)) (c.put_down-2.ensures.torn tells)
