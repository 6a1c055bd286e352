use Rattle.std.proofs.Common.{arith, refl}
use Rattle.wal_record.specs.Upkeep.{in_range}
use Rattle.wal_record.specs.declared.analysis.Run.{Run}
use Rattle.upkeep_judge.proofs.Spans.{span_begins, span_ends, span_few, span_more}
use Rattle.upkeep_judge.proofs.runs.span_of.Goals as goal

abbrev none : Run
none = record { run = 0; first = 0; last = 0 }

pub loop-run-init : goal.loop-run-init
loop-run-init c = record { span = span_begins (in_range c.args.done.now) c.args.runs.now _ refl; few = omega arith }

pub loop-run-preserved : goal.loop-run-preserved
loop-run-preserved c = record {
  span = span_more (in_range c.args.done.now) c.args.runs.now c.loop-run.run-index none c.loop-run.span c.with_run-span.result c.loop-run-test.true c.loop-run.invariant.span c.with_run-span.ensures.inside c.with_run-span.ensures.outside;
  few = span_few (in_range c.args.done.now) c.args.runs.now c.loop-run.run-index none c.loop-run.span c.with_run-span.result c.loop-run.invariant.few c.with_run-span.ensures.inside c.with_run-span.ensures.outside;
}

pub returns : goal.returns
returns c = span_ends (in_range c.args.done.now) c.args.runs.now c.loop-run.run-index c.loop-run.span (omega (arith, c.loop-run-test.false)) c.loop-run.invariant.span
