use Rattle.std.proofs.Common.{arith, true, false}
use Rattle.std.proofs.lemmas.Bool.Decides.{nat_tests}
use Rattle.losers.specs.Losers.{is_of, untouched}
use Rattle.losers.proofs.Changes.{found_at, one_passed}
use Rattle.losers.proofs.losers.state_of.Goals as goal

pub returns-then-tx-loser : goal.returns-then-tx-loser
returns-then-tx-loser c = found_at (is_of c.args.tx) c.loop-loser.loser-index c.args.items.now _ c.loop-loser.invariant (omega (arith, c.loop-loser-test.true)) (grind (arith, nat_tests, c.if-tx-loser.true))

pub loop-loser-preserved : goal.loop-loser-preserved
loop-loser-preserved c = one_passed (is_of c.args.tx) c.loop-loser.loser-index _ c.args.items.now (untouched 0) (omega arith) c.loop-loser.invariant (omega (arith, c.loop-loser-test.true)) (grind (arith, nat_tests, c.if-tx-loser.false))
