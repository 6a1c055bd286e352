use Rattle.std.proofs.Common.{ap, sym, ◌∙◌}
use Rattle.chain_judge.proofs.Alone.{any_tx, none_too, opens_too}
use Rattle.chain_judge.proofs.chains.none_opens_in.Goals as goal

pub returns-clause-yes : goal.returns-clause-yes
returns-clause-yes c = λ is. none_too c.args.key.now c.args.tx c.args.running.now (sym c.loop-other.invariant ∙ ap (any_tx (opens_too c.args.key.now c.args.tx c.args.running.now)) c.in-None.ensures.steps.0)
