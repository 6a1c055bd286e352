use Rattle.std.proofs.Common.{Ok, ap, refl, sym, ◌∙◌}
use Rattle.page_ops.specs.Claims.{Claims}
use Rattle.engine.proofs.Said.{keeps_holder, said_ok, still_in_hand}
use Rattle.engine.proofs.saying.say.Goals as goal

pub invariant_of-leaf-2 : goal.invariant_of-leaf-2
invariant_of-leaf-2 g c =
    still_in_hand g.N.Life.opens g.N.Life.entries g.N.Life.session_entries c.args.leaf.now _ c.leaf.view_is c.args.owner.now c.args.pass.now c.args.request c.args.reply c.group_of-made.result c.group_of-made.ensures.made c.group_of-made.ensures.none _ _ _ _ c.take.ensures.value c.take-2.ensures.value (c.rights.view_is ∙ c.none-rights.ensures) refl _ _ _ _ _ c.ask-answer.ensures.asked (Ok c.in-At.pos) c.leaf.invariant (said_ok g.N.Life.opens g.N.Life.entries g.N.Life.session_entries c.args.leaf.now _ c.leaf.view_is c.args.owner.now c.args.pass.now c.args.request c.args.reply c.group_of-made.result c.group_of-made.ensures.made c.group_of-made.ensures.none _ _ _ _ c.take.ensures.value c.take-2.ensures.value (c.rights.view_is ∙ c.none-rights.ensures) refl _ _ _ _ _ c.ask-answer.ensures.asked c.in-At.pos (c.in-Ok.is ∙ (λ i. Ok (c.in-At.is i)))) c.ask-answer.ensures.holders _ c.rights-2.view_is c.rights-2.invariant _ _ c.take-4.ensures.value c.in-Some.is _ c.lsn-leaf-inside.ensures

pub returns-clause-says : goal.returns-clause-says
returns-clause-says g c =
    record { claims = c.ask-answer.new.rights; entered = (said_ok g.N.Life.opens g.N.Life.entries g.N.Life.session_entries c.args.leaf.now _ c.leaf.view_is c.args.owner.now c.args.pass.now c.args.request c.args.reply c.group_of-made.result c.group_of-made.ensures.made c.group_of-made.ensures.none _ _ _ _ c.take.ensures.value c.take-2.ensures.value (c.rights.view_is ∙ c.none-rights.ensures) refl _ _ _ _ _ c.ask-answer.ensures.asked c.in-At.pos (c.in-Ok.is ∙ (λ i. Ok (c.in-At.is i)))); session = sym (c.take-3.ensures.value ∙ ap (λ (w : Claims). w.s) c.rights-2.view_is) }

pub returns-clause-holder : goal.returns-clause-holder
returns-clause-holder g c =
    keeps_holder g.N.Life.opens g.N.Life.entries g.N.Life.session_entries c.args.leaf.now _ c.leaf.view_is c.args.owner.now c.args.pass.now c.args.request c.args.reply c.group_of-made.result c.group_of-made.ensures.made c.group_of-made.ensures.none _ _ _ _ c.take.ensures.value c.take-2.ensures.value (c.rights.view_is ∙ c.none-rights.ensures) refl _ _ _ _ _ c.ask-answer.ensures.asked (Ok c.in-At.pos) (said_ok g.N.Life.opens g.N.Life.entries g.N.Life.session_entries c.args.leaf.now _ c.leaf.view_is c.args.owner.now c.args.pass.now c.args.request c.args.reply c.group_of-made.result c.group_of-made.ensures.made c.group_of-made.ensures.none _ _ _ _ c.take.ensures.value c.take-2.ensures.value (c.rights.view_is ∙ c.none-rights.ensures) refl _ _ _ _ _ c.ask-answer.ensures.asked c.in-At.pos (c.in-Ok.is ∙ (λ i. Ok (c.in-At.is i)))) c.ask-answer.ensures.holders c.ask-answer.ensures.same _ (c.take-3.ensures.value ∙ ap (λ (w : Claims). w.s) c.rights-2.view_is) tt
