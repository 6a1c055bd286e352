use Rattle.std.proofs.Common.{◌≡◌, ap, sym, ◌∙◌, subst, arith, length, length-take, take, List}
use Rattle.log_blocks.specs.Log.{Block}
use Rattle.log_blocks.specs.Waiting.{AreNodes}
use Rattle.log_blocks.proofs.Nodes.{nodes_push}
use Rattle.log_blocks.proofs.waiting.settle_first.Goals as goal

pub returns-clause-nodes : goal.returns-clause-nodes
returns-clause-nodes c =
    let node = c.replace-node.result in
    let is : node ≡ take 1 c.args.recent.now = c.replace-node.ensures.value ∙ c.in-Ok.ensures.items in
    let one : length node ≡ 1 = omega (arith, ap (λ (l : List Block). length l) is, length-take 1 c.args.recent.now, c.requires.some) in
    subst AreNodes (sym c.in-Ok-push.ensures.items) (nodes_push c.args.settled.now.items node c.requires.nodes one)
