use Rattle.std.proofs.Common.{◌≡◌, ◌+◌, ◌++◌, length}
use Rattle.log_blocks.specs.Batch.{numbered, records_in}
use Rattle.log_blocks.specs.Log.{blocks}
use Rattle.log_blocks.proofs.log.join_numbered.Given as goal

abbrev pub invariant-loop-more : goal.invariant-loop-more
invariant-loop-more l = record {
  blocks_are : l.pending ++ numbered l.next l.more ≡ l.fn.pending ++ numbered l.fn.next l.fn.more;
  records : l.next + records_in l.more ≡ l.fn.next + records_in l.fn.more;
  bytes : l.end + length (blocks l.more) ≡ l.fn.end + length (blocks l.fn.more);
  few : length l.pending + length l.more ≡ length l.fn.pending + length l.fn.more;
}

abbrev pub decreases-loop-more : goal.decreases-loop-more
decreases-loop-more l = length l.more
