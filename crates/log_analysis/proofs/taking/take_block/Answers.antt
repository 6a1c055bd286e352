use Rattle.std.proofs.Common.{arith}
use Rattle.log_analysis.proofs.Payloads.{one_more}
use Rattle.log_analysis.proofs.taking.take_block.Goals as goal

pub loop-place-preserved : goal.loop-place-preserved
loop-place-preserved c = record {
  within = c.in-Ok.ensures.within;
  so_far = one_more c.args.payload.now c.loop-place.at c.loop-place.place c.args.named.checkpoint c.args.first c.args.listing.now c.loop-place.listing c.loop-place.invariant.so_far c.in-Ok.next
      c.saturating_add-lsn.result c.take_record.new.listing (λ s. omega (arith, s, c.saturating_add-lsn.ensures, c.from.ensures)) c.in-Ok.ensures.taken c.loop-place.invariant.within c.in-Ok.ensures.within;
}
