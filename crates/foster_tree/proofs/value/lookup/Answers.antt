use Rattle.std.proofs.Common.{◌∙◌}
use Rattle.page_rows.proofs.Changes.{live_is}
use Rattle.foster_tree.proofs.value.lookup.Goals as goal

pub returns : goal.returns
returns c = c.value_at.ensures ∙ live_is c.args.key.now c.args.leaf.now c.requires.leaf c.requires.keeps c.search-spot.result c.search-spot.ensures.spot
