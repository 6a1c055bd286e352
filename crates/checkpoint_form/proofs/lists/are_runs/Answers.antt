use Rattle.std.proofs.Common.{arith, refl, take, slice_index_or}
use Rattle.std.specs.Prelude.{IsTrue}
use Rattle.wal_record.specs.Rules.{run_fits}
use Rattle.wal_record.specs.declared.analysis.Run.{Run}
use Rattle.checkpoint_form.proofs.Along.{along_none, along_more, along_at, along_whole, top_more, item_is}
use Rattle.checkpoint_form.proofs.Items.{run_goes_on, run_above}
use Rattle.checkpoint_form.proofs.lists.are_runs.Goals as goal

abbrev none : Run
none = record { run = 0; first = 0; last = 0 }

pub loop-run-init : goal.loop-run-init
loop-run-init c = record { last = refl; fit = along_none (λ before x. IsTrue (run_fits before x)) c.args.runs.now }

pub returns-then-not-run_follows-clause-all : goal.returns-then-not-run_follows-clause-all
returns-then-not-run_follows-clause-all c all =
    let one = run_above (take c.loop-run.run-index c.args.runs.now) (slice_index_or c.args.runs.now c.loop-run.run-index none) c.loop-run.last c.loop-run.invariant.last (along_at (λ before x. IsTrue (run_fits before x)) c.args.runs.now c.loop-run.run-index (slice_index_or c.args.runs.now c.loop-run.run-index none) (item_is c.args.runs.now c.loop-run.run-index none c.loop-run-test.true) c.loop-run-test.true all) in
    c.if-not-run_follows.ensures.all one.0 one.1 one.2 one.3

pub loop-run-preserved : goal.loop-run-preserved
loop-run-preserved c =
    let follows = c.if-not-run_follows.ensures.follows refl in
    record {
      last = top_more (λ (x : Run). x.first) c.args.runs.now c.loop-run.run-index _ (slice_index_or c.args.runs.now c.loop-run.run-index none) (item_is c.args.runs.now c.loop-run.run-index none c.loop-run-test.true) (omega arith) c.loop-run-test.true;
      fit = along_more (λ before x. IsTrue (run_fits before x)) c.args.runs.now c.loop-run.run-index _ (slice_index_or c.args.runs.now c.loop-run.run-index none) (item_is c.args.runs.now c.loop-run.run-index none c.loop-run-test.true) (omega arith) c.loop-run-test.true c.loop-run.invariant.fit
          (run_goes_on (take c.loop-run.run-index c.args.runs.now) (slice_index_or c.args.runs.now c.loop-run.run-index none) c.loop-run.last c.loop-run.invariant.last follows.0 follows.1 follows.2 follows.3);
    }

pub returns-clause-fit : goal.returns-clause-fit
returns-clause-fit c true = along_whole (λ before x. IsTrue (run_fits before x)) c.args.runs.now c.loop-run.run-index (omega (arith, c.loop-run-test.false)) c.loop-run.invariant.fit
