use Rattle.std.proofs.Common.{◌∙◌}
use Rattle.std.proofs.lemmas.Result.{err_from_is_err_and}
use Rattle.vault_bases.proofs.StandingRuns.{fails_so, lacks, some_is}
use Rattle.vault_bases.proofs.runs.record_in.Goals as goal

pub returns-in_err-found-clause-found : goal.returns-in_err-found-clause-found
returns-in_err-found-clause-found c r has =
    let p = err_from_is_err_and c.from_residual.result c.from_residual.ensures.1 in
    rw (p.1, p.2) (lacks _ _ _ _ r _ c.in_err-found.ensures.refused (c.in_err-found.ensures.none has.first has.last has.chunks has.is) has.items)

pub returns-in_err-found-clause-refused : goal.returns-in_err-found-clause-refused
returns-in_err-found-clause-refused c =
    let p = err_from_is_err_and c.from_residual.result c.from_residual.ensures.1 in
    rw (p.1, p.2) (fails_so _ _ c.in_err-found.ensures.refused)

pub returns-in-Some-clause-found : goal.returns-in-Some-clause-found
returns-in-Some-clause-found c r has = some_is c.in-Some.record r (c.in-Some.ensures.first r has.behind (c.in_ok-found.ensures.found has.first has.last has.chunks has.is ∙ has.items))

pub returns-in-None-clause-found : goal.returns-in-None-clause-found
returns-in-None-clause-found c r has = absurd (cc (c.in-None.ensures.first r has.behind (c.in_ok-found.ensures.found has.first has.last has.chunks has.is ∙ has.items)))
