use Rattle.life_history.specs.Groups.{IsOwn}
use Rattle.wal_record.specs.Chains.{link_of}
use Rattle.group_filling.proofs.Pairs.{each_two}
use Rattle.group_filling.proofs.fitting.are_fit.Goals as goal

pub returns-then-is_one_fit-clause-own : goal.returns-then-is_one_fit-clause-own
returns-then-is_one_fit-clause-own g c = λ is.
    each_two (λ r. IsOwn c.args.history.now c.args.rights.now.s (link_of r)) c.args.recs.now _ _ _ _ c.in-len2.len_at_least c.in-len2.len_below c.one-item-then-recs-lt3.is c.two-item.is
    (c.is_one_fit-in-len2.ensures.own c.if-is_one_fit.true) (c.is_one_fit-then-is_one_fit.ensures.own is)
