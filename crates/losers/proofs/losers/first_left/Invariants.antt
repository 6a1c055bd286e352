use Rattle.std.proofs.Common.{◌≡◌, take, None}
use Rattle.std.specs.List.{find}
use Rattle.losers.specs.Losers.{is_left}
use Rattle.losers.proofs.losers.first_left.Given as goal

abbrev pub invariant-loop-loser : goal.invariant-loop-loser
invariant-loop-loser l = find is_left (take l.loser-index l.items) ≡ None
