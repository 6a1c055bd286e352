use Rattle.std.proofs.Common.{arith, sym, ◌∙◌}
use Rattle.loser_laws.specs.Losers.{has_open_in}
use Rattle.losers.specs.declared.losers.LoserState.{LoserState}
use Rattle.losers.proofs.Changes.{one_passed}
use Rattle.journal.proofs.Losing.{first_at, first_none, found_before}
use Rattle.journal.proofs.in_way.first_in.Goals as goal

pub loop-loser-init : goal.loop-loser-init
loop-loser-init c log is lawful = found_before (λ (x : LoserState). has_open_in c.args.range.now log x.tx) c.args.losers.now

pub returns-then-has_open_in : goal.returns-then-has_open_in
returns-then-has_open_in c log is lawful =
    first_at (has_open_in c.args.range.now log) c.args.losers.now c.loop-loser.loser-index _ (c.loop-loser.invariant log is lawful) (omega (arith, c.loop-loser-test.true)) (sym (c.has_open_in.ensures log is lawful) ∙ c.if-has_open_in.true)

pub loop-loser-preserved : goal.loop-loser-preserved
loop-loser-preserved c log is lawful =
    one_passed (λ (x : LoserState). has_open_in c.args.range.now log x.tx) c.loop-loser.loser-index _ c.args.losers.now _ (omega arith) (c.loop-loser.invariant log is lawful) (omega (arith, c.loop-loser-test.true)) (sym (c.has_open_in.ensures log is lawful) ∙ c.if-has_open_in.false)

pub returns : goal.returns
returns c log is lawful = first_none (has_open_in c.args.range.now log) c.args.losers.now c.loop-loser.loser-index (c.loop-loser.invariant log is lawful) (omega (arith, c.loop-loser-test.false))
