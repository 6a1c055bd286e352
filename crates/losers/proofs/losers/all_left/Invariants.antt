use Rattle.std.proofs.Common.{◌≡◌, take, map, filter}
use Rattle.losers.specs.Losers.{is_left}
use Rattle.losers.specs.declared.losers.LoserState.{LoserState}
use Rattle.losers.proofs.losers.all_left.Given as goal

abbrev pub invariant-loop-loser : goal.invariant-loop-loser
invariant-loop-loser l = l.txs.items ≡ map (λ (x : LoserState). x.tx) (filter is_left (take l.loser-index l.items))
