use Rattle.std.proofs.Common.{arith, ap, not, true, false}
use Rattle.losers.specs.Losers.{is_left}
use Rattle.losers.proofs.Changes.{found_at, one_passed}
use Rattle.losers.proofs.losers.first_left.Goals as goal

pub returns-then-not-loser : goal.returns-then-not-loser
returns-then-not-loser c = found_at (is_left) c.loop-loser.loser-index c.args.items.now _ c.loop-loser.invariant (omega (arith, c.loop-loser-test.true)) (ap not c.if-not-loser.true)

pub loop-loser-preserved : goal.loop-loser-preserved
loop-loser-preserved c = one_passed (is_left) c.loop-loser.loser-index _ c.args.items.now _ (omega arith) c.loop-loser.invariant (omega (arith, c.loop-loser-test.true)) (ap not c.if-not-loser.false)
