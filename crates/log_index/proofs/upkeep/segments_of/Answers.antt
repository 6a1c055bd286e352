use Rattle.std.proofs.Common.{◌+◌, ◌/◌, refl, arith}
use Rattle.std.proofs.lemmas.Iterator.{items_from_collect, YieldsList-from_range}
use Rattle.log_index.proofs.upkeep.segments_of.Goals as goal

pub returns : goal.returns
returns c =
    items_from_collect _ c.collect.ensures.ran (YieldsList-from_range 0 c.div_ceil-count.result ((c.args.pages + 15) / 16) refl (omega (arith, c.div_ceil-count.ensures)))
