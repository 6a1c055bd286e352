use Rattle.std.proofs.Common.{◌≡◌}
use Rattle.chain_judge.proofs.Alone.{any_tx, opens_too}
use Rattle.chain_judge.proofs.chains.none_opens_in.Given as goal

abbrev pub invariant-loop-other : goal.invariant-loop-other
invariant-loop-other l = any_tx (opens_too l.key l.tx l.running) l.other-iterator ≡ any_tx (opens_too l.key l.tx l.running) l.running.entries
