use Rattle.std.proofs.Common.{◌≡◌, take, None}
use Rattle.std.specs.List.{find}
use Rattle.losers.specs.Losers.{is_of}
use Rattle.losers.proofs.losers.state_of.Given as goal

abbrev pub invariant-loop-loser : goal.invariant-loop-loser
invariant-loop-loser l = find (is_of l.tx) (take l.loser-index l.items) ≡ None
