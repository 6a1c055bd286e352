use Rattle.std.proofs.Common.{arith}
use Rattle.media.proofs.Pieces.{part}
use Rattle.media.proofs.stream.write_all.Goals as goal

pub loop-rest-preserved : goal.loop-rest-preserved
loop-rest-preserved g c = record {
  bytes = rw (c.split_at.ensures.back) (part _ c.loop-rest.rest.now _ _ _ c.in_ok-count.count c.loop-rest.invariant.bytes c.in_ok-count.ensures.bytes);
  faults = omega (arith, c.loop-rest.invariant.faults, c.in_ok-count.ensures.cause.later);
}
