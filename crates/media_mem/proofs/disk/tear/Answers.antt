use Rattle.std.proofs.Common.{◌∙◌, ap, sym, arith}
use Rattle.media_mem.specs.History.{piece_of}
use Rattle.media_mem.proofs.Keeping.{map_set}
use Rattle.media_mem.proofs.disk.tear.Goals as goal

pub loop-write-preserved : goal.loop-write-preserved
loop-write-preserved c =
    map_set c.loop-write.write-items c.loop-write.write-index c.write-item.result c.tear_one-left.new.write (omega (arith, c.loop-write-test.true, c.loop-write.auto.write-items)) c.write-item.is
    ((λ i. record { at = c.tear_one-left.ensures.at i; size = c.tear_one-left.ensures.size i }) ∙ ap piece_of (sym c.write-item.is)) ∙ c.loop-write.invariant
