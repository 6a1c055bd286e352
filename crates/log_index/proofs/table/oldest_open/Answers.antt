use Rattle.std.proofs.Common.{ℕ, List, ap, ◌∙◌}
use Rattle.wal_record.specs.declared.record.OpenWrite.{OpenWrite}
use Rattle.log_index.specs.Table.{listed_in, oldest_in}
use Rattle.log_index.specs.declared.table.Tracked.{Tracked}
use Rattle.log_index.proofs.Copying.{one_older, all_older}
use Rattle.log_index.proofs.table.oldest_open.Goals as goal
use Rattle.wal_record.specs.Checkpoints.{oldest}

pub loop-tx-init : goal.loop-tx-init
loop-tx-init c = ap (λ (es : List (ℕ × Tracked)). oldest_in c.args.lsn (listed_in es)) c.into_iter-tx-iterator.ensures.into_iter_gives.0

pub loop-tx-preserved : goal.loop-tx-preserved
loop-tx-preserved c = one_older c.loop-tx.least c.older-least.result _ (c.in-Some._tx.now, c.in-Some.tracked.now) c.loop-tx._tx-iterator c.next.new.self c.in-Some.ensures.steps
    (c.older-least.ensures ∙ ap (λ (ws : List OpenWrite). oldest ws c.loop-tx.least) c.deref.ensures.value) c.loop-tx.invariant

pub returns : goal.returns
returns c = all_older c.loop-tx.least _ c.loop-tx._tx-iterator c.in-None.ensures.steps.0 c.loop-tx.invariant
