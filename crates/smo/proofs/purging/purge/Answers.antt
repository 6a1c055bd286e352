use Rattle.std.proofs.Common.{◌≡◌, Ok, refl, ◌∙◌}
use Rattle.page_ops.specs.declared.outcome.Entered.TheVariants.{At}
use Rattle.smo.proofs.PurgedLeaf.{may_purge, purge_settled}
use Rattle.smo.proofs.purging.purge.Goals as goal

pub ask-entered-requires : goal.ask-entered-requires
ask-entered-requires g c =
    may_purge _ _ _ _ _ _ _ _ c.leaf.view_is c.leaf.invariant c.requires.begins c.requires.leaf c.requires.some c.take.ensures.value (c.rights.view_is ∙ c.none-rights.ensures) refl c.group_of-made.ensures

pub invariant_of-leaf-2 : goal.invariant_of-leaf-2
invariant_of-leaf-2 g c =
    let result_is : c.ask-entered.result ≡ Ok (At c.in-At.pos) = c.in_ok-pos.was ∙ (λ i. Ok (c.in-At.is i)) in
    purge_settled _ _ _ _ _ _ _ _ _ _ _ _ _ _ _ _ _ _ _ _ _ _ c.leaf.view_is c.leaf.invariant c.requires.begins c.requires.leaf c.take.ensures.value (c.rights.view_is ∙ c.none-rights.ensures) refl c.group_of-made.ensures
    result_is c.ask-entered.ensures.asked c.ask-entered.ensures.holders c.rights-2.view_is c.rights-2.invariant c.take-back.ensures.value c.in-Some.is c.lsn-leaf-inside.ensures c.keep_live.ensures c.copy.ensures.copy
