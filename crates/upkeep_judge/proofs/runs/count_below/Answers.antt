use Rattle.std.proofs.Common.{arith, refl}
use Rattle.wal_record.specs.declared.analysis.Run.{Run}
use Rattle.upkeep_judge.specs.Runs.{is_below}
use Rattle.upkeep_judge.proofs.Spans.{count_begins, count_ends, count_few, count_goes}
use Rattle.upkeep_judge.proofs.runs.count_below.Goals as goal

abbrev none : Run
none = record { run = 0; first = 0; last = 0 }

pub loop-run-init : goal.loop-run-init
loop-run-init c = record { count = count_begins (is_below c.args.lsn) c.args.runs.now 0 refl; few = omega arith }

pub loop-run-preserved : goal.loop-run-preserved
loop-run-preserved c = record {
  count = count_goes (is_below c.args.lsn) c.args.runs.now c.loop-run.run-index none c.loop-run.count c.count_more-count.result c.loop-run-test.true c.loop-run.invariant.count c.count_more-count.ensures;
  few = let more = c.count_more-count.ensures in let few = c.loop-run.invariant.few in count_few c.loop-run.count c.loop-run.run-index _ _ few more;
}

pub returns : goal.returns
returns c = count_ends (is_below c.args.lsn) c.args.runs.now c.loop-run.run-index c.loop-run.count (omega (arith, c.loop-run-test.false)) c.loop-run.invariant.count
