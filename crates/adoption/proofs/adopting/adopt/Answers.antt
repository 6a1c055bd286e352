use Rattle.std.proofs.Common.{◌≡◌, Result, Ok, refl, sym, subst, ◌∙◌}
use Rattle.std.specs.Prelude.{IfOk}
use Rattle.std.proofs.lemmas.Result.{err_from_is_err_and}
use Rattle.store_model.specs.declared.fault.Memory.{Memory}
use Rattle.wal_record.specs.declared.page.PageState.{PageState}
use Rattle.page_ops.specs.declared.outcome.Entered.TheVariants.{At}
use Rattle.adoption.specs.Adoptions.{with_row_for}
use Rattle.adoption.proofs.AdoptedChild.{takes_of_hands, may_adopt, none_entered, parent_settled, fosterer_settled, adopted_entered}
use Rattle.adoption.proofs.adopting.adopt.Goals as goal

pub with_row_for-larger-requires-clause-takes : goal.with_row_for-larger-requires-clause-takes
with_row_for-larger-requires-clause-takes g c =
    takes_of_hands c.args.parent.now _ c.args.fosterer.now _ c.parent.view_is c.fosterer.view_is c.parent.invariant.keeps c.fosterer.invariant.keeps c.args.foster.now c.requires.branch c.requires.child c.requires.foster

pub ask-entered-requires : goal.ask-entered-requires
ask-entered-requires g c =
    may_adopt g.N.Life.opens g.N.Life.entries g.N.Life.session_entries c.args.parent.now _ c.args.fosterer.now _ c.parent.view_is c.fosterer.view_is c.parent.invariant c.fosterer.invariant c.args.foster.now c.args.pass.now
    c.requires.begins c.requires.begins_too c.requires.branch c.requires.child c.requires.foster c.requires.room _ c.group_of-made.ensures.is _ _ _ _ c.take.ensures.value c.take-2.ensures.value (c.rights.view_is ∙ c.none-rights.ensures) refl

pub returns-in_err-entered-clause-entered : goal.returns-in_err-entered-clause-entered
returns-in_err-entered-clause-entered g c =
    let p = err_from_is_err_and c.from_residual.result c.from_residual.ensures.1 in
    rw (p.1, p.2) (none_entered g.N.Life.opens g.N.Life.entries g.N.Life.session_entries c.args.parent.now _ c.args.fosterer.now _ c.parent.view_is c.fosterer.view_is c.parent.invariant c.fosterer.invariant c.args.foster.now c.args.pass.now
    c.requires.begins c.requires.begins_too c.requires.branch c.requires.child c.requires.foster c.requires.room _ c.group_of-made.ensures.is _ _ _ _ c.take.ensures.value c.take-2.ensures.value (c.rights.view_is ∙ c.none-rights.ensures) refl
    c.ask-entered.new.pass c.ask-entered.result _ _ _ _ c.ask-entered.ensures.asked _ _ _ c.in_err-entered.was c.ask-entered.ensures.same c.rights-2.view_is (sym c.take-3.ensures.value ∙ c.in-Some.is) (sym c.take-4.ensures.value ∙ c.in-Some-take.is))

pub invariant_of-parent-2 : goal.invariant_of-parent-2
invariant_of-parent-2 g c =
    let result_is : c.ask-entered.result ≡ Ok (At c.in-At.field-0) = c.in_ok-entered.was ∙ (λ i. Ok (c.in-At.is i)) in
    let state_is = subst (λ (o : Result PageState Memory). IfOk o (λ (s : PageState). s ≡ with_row_for c.args.foster.now c.parent.inside.state)) c.in-Ok.is c.with_row_for-larger.ensures in
    parent_settled g.N.Life.opens g.N.Life.entries g.N.Life.session_entries c.args.parent.now _ c.args.fosterer.now _ c.parent.view_is c.fosterer.view_is c.parent.invariant c.fosterer.invariant c.args.foster.now c.args.pass.now
    c.requires.begins c.requires.begins_too c.requires.branch c.requires.child c.requires.foster c.requires.room _ c.group_of-made.ensures.is _ _ _ _ c.take.ensures.value c.take-2.ensures.value (c.rights.view_is ∙ c.none-rights.ensures) refl
    c.ask-entered.new.pass c.ask-entered.result _ _ _ _ c.ask-entered.ensures.asked c.in-At.field-0 result_is c.ask-entered.ensures.holders c.rights-2.view_is c.rights-2.invariant _ _
    (sym c.take-3.ensures.value ∙ c.in-Some.is) (sym c.take-4.ensures.value ∙ c.in-Some-take.is) _ _ _ c.lsn-parent-inside.ensures state_is c.copy.ensures.copy

pub invariant_of-fosterer-2 : goal.invariant_of-fosterer-2
invariant_of-fosterer-2 g c =
    let result_is : c.ask-entered.result ≡ Ok (At c.in-At.field-0) = c.in_ok-entered.was ∙ (λ i. Ok (c.in-At.is i)) in
    fosterer_settled g.N.Life.opens g.N.Life.entries g.N.Life.session_entries c.args.parent.now _ c.args.fosterer.now _ c.parent.view_is c.fosterer.view_is c.parent.invariant c.fosterer.invariant c.args.foster.now c.args.pass.now
    c.requires.begins c.requires.begins_too c.requires.branch c.requires.child c.requires.foster c.requires.room _ c.group_of-made.ensures.is _ _ _ _ c.take.ensures.value c.take-2.ensures.value (c.rights.view_is ∙ c.none-rights.ensures) refl
    c.ask-entered.new.pass c.ask-entered.result _ _ _ _ c.ask-entered.ensures.asked c.in-At.field-0 result_is c.ask-entered.ensures.holders c.rights-2.view_is c.rights-2.invariant _ _
    (sym c.take-3.ensures.value ∙ c.in-Some.is) (sym c.take-4.ensures.value ∙ c.in-Some-take.is) _ _ _ c.lsn-fosterer-inside.ensures c.of_key-fosterer-inside.ensures (c.copy-2.ensures.copy ∙ c.copy.ensures.same)

pub returns-clause-entered : goal.returns-clause-entered
returns-clause-entered g c =
    let result_is : c.ask-entered.result ≡ Ok (At c.in-At.field-0) = c.in_ok-entered.was ∙ (λ i. Ok (c.in-At.is i)) in
    adopted_entered g.N.Life.opens g.N.Life.entries g.N.Life.session_entries c.args.parent.now _ c.args.fosterer.now _ c.parent.view_is c.fosterer.view_is c.parent.invariant c.fosterer.invariant c.args.foster.now c.args.pass.now
    c.requires.begins c.requires.begins_too c.requires.branch c.requires.child c.requires.foster c.requires.room _ c.group_of-made.ensures.is _ _ _ _ c.take.ensures.value c.take-2.ensures.value (c.rights.view_is ∙ c.none-rights.ensures) refl
    c.ask-entered.new.pass c.ask-entered.result _ _ _ _ c.ask-entered.ensures.asked c.in-At.field-0 result_is c.ask-entered.ensures.holders c.rights-2.view_is c.rights-2.invariant _ _
    (sym c.take-3.ensures.value ∙ c.in-Some.is) (sym c.take-4.ensures.value ∙ c.in-Some-take.is) _ _ (c.copy-2.ensures.same ∙ c.copy.ensures.same)
