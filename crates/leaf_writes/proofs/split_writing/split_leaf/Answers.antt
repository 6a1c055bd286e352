use Rattle.std.proofs.Common.{rules, ◌≡◌, refl, ap, sym, ◌∙◌}
use Rattle.page_ops.specs.Claims.{Claims}
use Rattle.leaf_writes.specs.Halves.{lower_written, upper_written}
use Rattle.leaf_writes.proofs.SplitSettled.{may_split, refused, upper_settled, lower_settled, split_done, split_owner}
use Rattle.leaf_writes.proofs.split_writing.split_leaf.Goals as goal

pub ask-answer-requires : goal.ask-answer-requires
ask-answer-requires g c =
    may_split g.N.Life.opens g.N.Life.entries g.N.Life.session_entries c.args.leaf.now _ c.leaf.view_is c.leaf.invariant c.args.pass.now c.requires.begins c.args.change.now.how c.args.change.now.tx c.args.change.now.key c.args.change.now.new
    c.requires.leaf c.requires.purged c.requires.full c.args.owner.now c.requires.may c.read.ensures _ c.group_of-made.ensures.is _ _ _ _ c.take.ensures.value c.take-2.ensures.value (c.rights.view_is ∙ c.none-rights.ensures) refl

pub returns-then-not-is_entered-clause-split : goal.returns-then-not-is_entered-clause-split
returns-then-not-is_entered-clause-split g c =
    refused g.N.Life.opens g.N.Life.entries g.N.Life.session_entries c.args.leaf.now _ c.leaf.view_is c.leaf.invariant c.args.pass.now c.requires.begins c.args.change.now.how c.args.change.now.tx c.args.change.now.key c.args.change.now.new
    c.requires.leaf c.requires.purged c.requires.full c.args.owner.now c.requires.may c.read.ensures _ c.group_of-made.ensures.is _ _ _ _ c.take.ensures.value c.take-2.ensures.value (c.rights.view_is ∙ c.none-rights.ensures) refl
    _ _ _ _ _ c.ask-answer.ensures.asked _ _ _ c.ask-answer.ensures.same
    (sym c.in-Some.is ∙ c.take-4.ensures.value ∙ ap (λ (w : Claims). w.a) c.rights-2.view_is) (c.take-3.ensures.value ∙ ap (λ (w : Claims). w.s) c.rights-2.view_is) (c.if-not-is_entered.ensures.none refl)

pub put_made-requires-clause-made : goal.put_made-requires-clause-made
put_made-requires-clause-made g c =
    let up : c.in-Ok.field-0.upper ≡ upper_written c.args.change.now.key c.args.change.now.new c.leaf.inside.state = search rules in
    upper_settled g.N.Life.opens g.N.Life.entries g.N.Life.session_entries c.args.leaf.now _ c.leaf.view_is c.leaf.invariant c.args.pass.now c.requires.begins c.args.change.now.how c.args.change.now.tx c.args.change.now.key c.args.change.now.new
    c.requires.leaf c.requires.purged c.requires.full c.args.owner.now c.requires.may c.read.ensures _ c.group_of-made.ensures.is _ _ _ _ c.take.ensures.value c.take-2.ensures.value (c.rights.view_is ∙ c.none-rights.ensures) refl
    _ _ _ _ _ c.ask-answer.ensures.asked (c.if-not-is_entered.ensures.some refl) c.ask-answer.ensures.holders _ c.rights-2.view_is c.rights-2.invariant _ _ _ _ c.take-4.ensures.value c.in-Some.is
    c.take-5.ensures.value c.in-Some-take.is _ _ up (c.copy-2.ensures.copy ∙ c.copy.ensures.same)

pub invariant_of-leaf-2 : goal.invariant_of-leaf-2
invariant_of-leaf-2 g c =
    let low : c.in-Ok.field-0.lower ≡ lower_written 2 c.args.change.now.key c.args.change.now.new c.leaf.inside.state = search rules in
    lower_settled g.N.Life.opens g.N.Life.entries g.N.Life.session_entries c.args.leaf.now _ c.leaf.view_is c.leaf.invariant c.args.pass.now c.requires.begins c.args.change.now.how c.args.change.now.tx c.args.change.now.key c.args.change.now.new
    c.requires.leaf c.requires.purged c.requires.full c.args.owner.now c.requires.may c.read.ensures _ c.group_of-made.ensures.is _ _ _ _ c.take.ensures.value c.take-2.ensures.value (c.rights.view_is ∙ c.none-rights.ensures) refl
    _ _ _ _ _ c.ask-answer.ensures.asked (c.if-not-is_entered.ensures.some refl) c.ask-answer.ensures.holders _ c.rights-2.view_is c.rights-2.invariant _ _ _ _ c.take-4.ensures.value c.in-Some.is
    c.take-5.ensures.value c.in-Some-take.is _ _ _ _ _ c.lsn-leaf-inside.ensures c.page.ensures low c.with_child.ensures c.copy.ensures.copy

pub returns-clause-split : goal.returns-clause-split
returns-clause-split g c =
    let low : c.in-Ok.field-0.lower ≡ lower_written 2 c.args.change.now.key c.args.change.now.new c.leaf.inside.state = search rules in
    split_done g.N.Life.opens g.N.Life.entries g.N.Life.session_entries c.args.leaf.now _ c.leaf.view_is c.leaf.invariant c.args.pass.now c.requires.begins c.args.change.now.how c.args.change.now.tx c.args.change.now.key c.args.change.now.new
    c.requires.leaf c.requires.purged c.requires.full c.args.owner.now c.requires.may c.read.ensures _ c.group_of-made.ensures.is _ _ _ _ c.take.ensures.value c.take-2.ensures.value (c.rights.view_is ∙ c.none-rights.ensures) refl
    _ _ _ _ _ c.ask-answer.ensures.asked (c.if-not-is_entered.ensures.some refl) c.ask-answer.ensures.holders _ c.rights-2.view_is c.rights-2.invariant _ _ _ _ c.take-4.ensures.value c.in-Some.is
    c.take-5.ensures.value c.in-Some-take.is _ _ _ _ _ _ _ c.page.ensures low c.with_child.ensures c.copy.ensures.copy (c.copy-2.ensures.same ∙ c.copy.ensures.same) (c.take-3.ensures.value ∙ ap (λ (w : Claims). w.s) c.rights-2.view_is)

pub returns-then-not-is_entered-clause-owner : goal.returns-then-not-is_entered-clause-owner
returns-then-not-is_entered-clause-owner g c =
    split_owner g.N.Life.opens g.N.Life.entries g.N.Life.session_entries c.args.leaf.now _ c.leaf.view_is c.leaf.invariant c.args.pass.now c.requires.begins c.args.change.now.how c.args.change.now.tx c.args.change.now.key c.args.change.now.new
    c.requires.leaf c.requires.purged c.requires.full c.args.owner.now c.requires.may c.read.ensures _ c.group_of-made.ensures.is _ _ _ _ c.take.ensures.value c.take-2.ensures.value (c.rights.view_is ∙ c.none-rights.ensures) refl
    _ _ _ _ _ c.ask-answer.ensures.asked c.ask-answer.ensures.holders c.ask-answer.ensures.same _ (c.take-3.ensures.value ∙ ap (λ (w : Claims). w.s) c.rights-2.view_is)

pub returns-clause-owner : goal.returns-clause-owner
returns-clause-owner g c =
    split_owner g.N.Life.opens g.N.Life.entries g.N.Life.session_entries c.args.leaf.now _ c.leaf.view_is c.leaf.invariant c.args.pass.now c.requires.begins c.args.change.now.how c.args.change.now.tx c.args.change.now.key c.args.change.now.new
    c.requires.leaf c.requires.purged c.requires.full c.args.owner.now c.requires.may c.read.ensures _ c.group_of-made.ensures.is _ _ _ _ c.take.ensures.value c.take-2.ensures.value (c.rights.view_is ∙ c.none-rights.ensures) refl
    _ _ _ _ _ c.ask-answer.ensures.asked c.ask-answer.ensures.holders c.ask-answer.ensures.same _ (c.take-3.ensures.value ∙ ap (λ (w : Claims). w.s) c.rights-2.view_is)
