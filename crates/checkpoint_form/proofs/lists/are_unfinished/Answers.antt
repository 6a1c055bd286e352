use Rattle.std.proofs.Common.{arith, refl, take}
use Rattle.wal_record.specs.Rules.{KeepsUnfinished}
use Rattle.wal_record.specs.declared.record.Unfinished.{Unfinished}
use Rattle.checkpoint_form.proofs.Along.{along_none, along_more, along_at, along_whole, top_more}
use Rattle.checkpoint_form.proofs.Items.{transaction_fits, transaction_above}
use Rattle.checkpoint_form.proofs.lists.are_unfinished.Goals as goal

pub loop-transaction-init : goal.loop-transaction-init
loop-transaction-init c = record { last = refl; fit = along_none KeepsUnfinished c.args.transactions.now }

pub returns-then-not-transaction_follows-clause-all : goal.returns-then-not-transaction_follows-clause-all
returns-then-not-transaction_follows-clause-all c all =
    let one = transaction_above (take c.loop-transaction.transaction-index c.args.transactions.now) c.transaction-item.result c.loop-transaction.last c.loop-transaction.invariant.last (along_at KeepsUnfinished c.args.transactions.now c.loop-transaction.transaction-index c.transaction-item.result c.transaction-item.is c.loop-transaction-test.true all) in
    c.if-not-transaction_follows.ensures.all one.0 one.1

pub loop-transaction-preserved : goal.loop-transaction-preserved
loop-transaction-preserved c =
    let follows = c.if-not-transaction_follows.ensures.follows refl in
    record {
      last = top_more (λ (u : Unfinished). u.tx) c.args.transactions.now c.loop-transaction.transaction-index _ c.transaction-item.result c.transaction-item.is (omega arith) c.loop-transaction-test.true;
      fit = along_more KeepsUnfinished c.args.transactions.now c.loop-transaction.transaction-index _ c.transaction-item.result c.transaction-item.is (omega arith) c.loop-transaction-test.true c.loop-transaction.invariant.fit
          (transaction_fits (take c.loop-transaction.transaction-index c.args.transactions.now) c.transaction-item.result c.loop-transaction.last c.loop-transaction.invariant.last follows.0 follows.1);
    }

pub returns-clause-fit : goal.returns-clause-fit
returns-clause-fit c true = along_whole KeepsUnfinished c.args.transactions.now c.loop-transaction.transaction-index (omega (arith, c.loop-transaction-test.false)) c.loop-transaction.invariant.fit
