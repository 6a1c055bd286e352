use Rattle.std.proofs.Common.{◌≡◌}
use Rattle.losers.proofs.Changes.{changed}
use Rattle.losers.specs.Losers.{ended_at}
use Rattle.losers.proofs.losers.set_ended.Given as goal

abbrev pub invariant-loop-loser : goal.invariant-loop-loser
invariant-loop-loser l = l.loser-items ≡ changed (ended_at l.tx l.place) l.loser-index l.fn.items.items
