use Rattle.std.proofs.Common.{arith}
use Rattle.page_judge.specs.Names.{AreNamesOf}
use Rattle.page_judge.proofs.Naming.{few_named}
use Rattle.page_judge.proofs.names.PageNames.length_law.Goals as goal

pub returns : goal.returns
unfolding AreNamesOf
returns c = λ log k.
    let few = few_named log c.args.self.now.named.items k in
    let same = c.as_slice-count.ensures.len in
    omega (arith, few, same)
