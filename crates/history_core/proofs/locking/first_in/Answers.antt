use Rattle.std.proofs.Common.{Some, ap, arith, sym, ◌∙◌}
use Rattle.loser_laws.specs.Losers.{has_open_in}
use Rattle.losers.proofs.Changes.{one_passed}
use Rattle.wal_record.specs.declared.analysis.Loser.{Loser}
use Rattle.history_core.proofs.Searching.{first_at, first_none, found_before}
use Rattle.history_core.proofs.locking.first_in.Goals as goal

pub loop-loser-init : goal.loop-loser-init
loop-loser-init c = λ log is lawful. found_before (λ (x : Loser). has_open_in c.args.range.now log x.tx) c.args.losers.now

pub returns-then-has_open_in : goal.returns-then-has_open_in
returns-then-has_open_in c = λ log is lawful.
    ap (λ (x : Loser). Some x.tx) c.loser-item.is
    ∙ first_at (has_open_in c.args.range.now log) c.args.losers.now c.loop-loser.loser-index c.loser-item.result (c.loop-loser.invariant log is lawful) (omega (arith, c.loop-loser-test.true))
    (ap (λ (x : Loser). has_open_in c.args.range.now log x.tx) (sym c.loser-item.is) ∙ sym (c.has_open_in.ensures log is lawful) ∙ c.if-has_open_in.true)

pub loop-loser-preserved : goal.loop-loser-preserved
loop-loser-preserved c = λ log is lawful.
    one_passed (λ (x : Loser). has_open_in c.args.range.now log x.tx) c.loop-loser.loser-index _ c.args.losers.now c.loser-item.result (omega arith) (c.loop-loser.invariant log is lawful) (omega (arith, c.loop-loser-test.true))
    (ap (λ (x : Loser). has_open_in c.args.range.now log x.tx) (sym c.loser-item.is) ∙ sym (c.has_open_in.ensures log is lawful) ∙ c.if-has_open_in.false)

pub returns : goal.returns
returns c = λ log is lawful. first_none (has_open_in c.args.range.now log) c.args.losers.now c.loop-loser.loser-index (c.loop-loser.invariant log is lawful) (omega (arith, c.loop-loser-test.false))
