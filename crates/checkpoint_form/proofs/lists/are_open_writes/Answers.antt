use Rattle.std.proofs.Common.{arith, refl, take}
use Rattle.std.specs.Prelude.{IsTrue}
use Rattle.wal_record.specs.Rules.{open_write_fits}
use Rattle.wal_record.specs.declared.record.OpenWrite.{OpenWrite}
use Rattle.checkpoint_form.proofs.Along.{along_none, along_more, along_at, along_whole, top_more}
use Rattle.checkpoint_form.proofs.Items.{write_fits, write_above}
use Rattle.checkpoint_form.proofs.lists.are_open_writes.Goals as goal

pub loop-write-init : goal.loop-write-init
loop-write-init c = record { last = refl; fit = along_none (λ before w. IsTrue (open_write_fits before w)) c.args.writes.now }

pub returns-then-not-write_follows-clause-all : goal.returns-then-not-write_follows-clause-all
returns-then-not-write_follows-clause-all c all =
    let one = write_above (take c.loop-write.write-index c.args.writes.now) c.write-item.result c.loop-write.last c.loop-write.invariant.last (along_at (λ before w. IsTrue (open_write_fits before w)) c.args.writes.now c.loop-write.write-index c.write-item.result c.write-item.is c.loop-write-test.true all) in
    c.if-not-write_follows.ensures.all one.0 one.1

pub loop-write-preserved : goal.loop-write-preserved
loop-write-preserved c =
    let follows = c.if-not-write_follows.ensures.follows refl in
    record {
      last = top_more (λ (w : OpenWrite). w.lsn) c.args.writes.now c.loop-write.write-index _ c.write-item.result c.write-item.is (omega arith) c.loop-write-test.true;
      fit = along_more (λ before w. IsTrue (open_write_fits before w)) c.args.writes.now c.loop-write.write-index _ c.write-item.result c.write-item.is (omega arith) c.loop-write-test.true c.loop-write.invariant.fit
          (write_fits (take c.loop-write.write-index c.args.writes.now) c.write-item.result c.loop-write.last c.loop-write.invariant.last follows.0 follows.1 c.if-not-write_follows.ensures.key);
    }

pub returns-clause-fit : goal.returns-clause-fit
returns-clause-fit c true = along_whole (λ before w. IsTrue (open_write_fits before w)) c.args.writes.now c.loop-write.write-index (omega (arith, c.loop-write-test.false)) c.loop-write.invariant.fit
