use Rattle.std.proofs.Common.{◌∙◌}
use Rattle.life_commands.proofs.Ends.{counts_told}
use Rattle.life_commands.proofs.upkeep.counts_of.Goals as goal

pub returns : goal.returns
returns c = counts_told c.args.known.now c.len.result c.len-2.result c.from-lost.result c.len-3.result c.saturating_sub.result c.len.ensures.value c.len-2.ensures.value (c.from-lost.ensures ∙ c.div_ceil.ensures) c.len-3.ensures.value c.saturating_sub.ensures
