use Rattle.std.proofs.Common.{◌≡◌, Ok, refl, ◌∙◌}
use Rattle.page_ops.specs.declared.outcome.Entered.TheVariants.{At}
use Rattle.smo.proofs.GrownRoot.{may_grow, child_settled, root_settled, grow_entered}
use Rattle.smo.proofs.growing.grow.Goals as goal

pub ask-entered-requires : goal.ask-entered-requires
ask-entered-requires g c =
    may_grow g.N.Life.opens g.N.Life.entries g.N.Life.session_entries c.args.root.now _ c.root.view_is c.root.invariant c.args.pass.now c.args.pass.now c.requires.begins c.requires.root c.requires.foster c.requires.level _ c.group_of-made.ensures.is
    _ _ _ c.take.ensures.value (c.rights.view_is ∙ c.none-rights.ensures) refl c.none-rights.result

pub put_made-requires-clause-made : goal.put_made-requires-clause-made
put_made-requires-clause-made g c =
    let result_is : c.ask-entered.result ≡ Ok (At c.in-At.field-0) = c.in_ok-entered.was ∙ (λ i. Ok (c.in-At.is i)) in
    child_settled _ _ _ c.args.root.now _ c.root.view_is c.root.invariant _ _ c.requires.begins c.requires.root c.requires.foster c.requires.level _ c.group_of-made.ensures.is
    _ _ _ c.take.ensures.value (c.rights.view_is ∙ c.none-rights.ensures) refl _ _ result_is _ _ _ _ c.ask-entered.ensures.asked c.ask-entered.ensures.holders c.rights-2.view_is c.rights-2.invariant _ _ _ _ c.take-back.ensures.value c.in-Some.is
    c.take-new.ensures.value c.in-Some-new.is _ _ c.replace-old.ensures.value (c.copy-2.ensures.copy ∙ c.copy.ensures.same)

pub invariant_of-root-2 : goal.invariant_of-root-2
invariant_of-root-2 g c =
    let result_is : c.ask-entered.result ≡ Ok (At c.in-At.field-0) = c.in_ok-entered.was ∙ (λ i. Ok (c.in-At.is i)) in
    root_settled _ _ _ c.args.root.now _ c.root.view_is c.root.invariant _ _ c.requires.begins c.requires.root c.requires.foster c.requires.level _ c.group_of-made.ensures.is
    _ _ _ c.take.ensures.value (c.rights.view_is ∙ c.none-rights.ensures) refl _ _ result_is _ _ _ _ c.ask-entered.ensures.asked c.ask-entered.ensures.holders c.rights-2.view_is c.rights-2.invariant _ _ _ _ c.take-back.ensures.value c.in-Some.is
    c.take-new.ensures.value c.in-Some-new.is _ _ _ _ c.lsn-root-inside.ensures c.page-child.ensures (c.replace-old.ensures.after ∙ c.root_above-above.ensures) c.copy.ensures.copy

pub returns-clause-entered : goal.returns-clause-entered
returns-clause-entered g c =
    let result_is : c.ask-entered.result ≡ Ok (At c.in-At.field-0) = c.in_ok-entered.was ∙ (λ i. Ok (c.in-At.is i)) in
    grow_entered _ _ _ c.args.root.now _ c.root.view_is c.root.invariant _ _ c.requires.begins c.requires.root c.requires.foster c.requires.level _ c.group_of-made.ensures.is
    _ _ _ c.take.ensures.value (c.rights.view_is ∙ c.none-rights.ensures) refl _ _ result_is _ _ _ _ c.ask-entered.ensures.asked c.ask-entered.ensures.holders c.rights-2.view_is c.rights-2.invariant _ _ _ _ c.take-back.ensures.value c.in-Some.is
    c.take-new.ensures.value c.in-Some-new.is _ _ c.page-child.ensures (c.copy-2.ensures.same ∙ c.copy.ensures.same)
