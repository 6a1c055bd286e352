use Rattle.std.proofs.Common.{arith, ◌∙◌}
use Rattle.command_laws.proofs.Living.{none_named}
use Rattle.store_life.specs.SoFar.{actives}
use Rattle.store_life.proofs.life.StoreLife.new.Goals as goal

pub returns-clause-fresh : goal.returns-clause-fresh
returns-clause-fresh g c = λ none.
    let all = c.see.ensures.seen.totals.all (c.see.ensures.seen.keeps.entry_parts ∙ c.requires) in
    let counted = c.see.ensures.seen.counted in
    none_named c.see.new.pass.log (actives c.new.result.items) (omega (arith, all, counted, none))

pub returns-clause-keeps : goal.returns-clause-keeps
returns-clause-keeps g c = c.see.ensures.seen.keeps
