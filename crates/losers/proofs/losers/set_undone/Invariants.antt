use Rattle.std.proofs.Common.{◌≡◌}
use Rattle.losers.proofs.Changes.{changed}
use Rattle.losers.specs.Losers.{undone_at}
use Rattle.losers.proofs.losers.set_undone.Given as goal

abbrev pub invariant-loop-loser : goal.invariant-loop-loser
invariant-loop-loser l = l.loser-items ≡ changed (undone_at l.tx l.place) l.loser-index l.fn.items.items
