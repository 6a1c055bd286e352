use Rattle.std.proofs.Common.{ap, arith, length, length-append, List}
use Rattle.log_blocks.specs.Log.{Block}
use Rattle.log_blocks.specs.Waiting.{all_in}
use Rattle.log_blocks.proofs.Nodes.{length-all}
use Rattle.log_blocks.proofs.waiting.Waiting.len.Goals as goal

pub returns-clause-value : goal.returns-clause-value
returns-clause-value c =
    let s = c.self.inside.settled in
    omega (arith, c.len.ensures, c.len-2.ensures.value, s.ok.0, length-all s.items c.self.invariant.nodes, length-append (all_in s.items) c.self.inside.recent, ap (λ (l : List Block). length l) c.self.view_is)

pub returns-clause-fits : goal.returns-clause-fits
returns-clause-fits c =
    let s = c.self.inside.settled in
    omega (arith, c.len.ensures, c.len-2.ensures.value, s.ok.0, length-all s.items c.self.invariant.nodes, length-append (all_in s.items) c.self.inside.recent, c.self.invariant.few)
