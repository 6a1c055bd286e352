use Rattle.std.proofs.Common.{refl, ap, sym, ◌∙◌}
use Rattle.page_ops.specs.Claims.{Claims}
use Rattle.page_ops.specs.Hands.{Hand}
use Rattle.page_rows.specs.Redo.{placed}
use Rattle.leaf_writes.proofs.ChangedLeaf.{may_change, change_asked, change_owner, change_settled, row_put}
use Rattle.leaf_writes.proofs.Handed.{on_all}
use Rattle.leaf_writes.proofs.writing.write_leaf.Goals as goal

pub ask-answer-requires : goal.ask-answer-requires
ask-answer-requires g c =
    may_change g.N.Life.opens g.N.Life.entries g.N.Life.session_entries c.args.leaf.now _ c.leaf.view_is c.leaf.invariant c.args.pass.now c.requires.begins c.args.change.now.how c.args.change.now.tx c.args.change.now.key c.args.change.now.new
    c.requires.leaf c.requires.fits c.args.owner.now c.requires.may c.read.ensures _ c.make_group-made.ensures.is _ _ _ _ c.take.ensures.value c.take-2.ensures.value (c.rights.view_is ∙ c.none-rights.ensures) refl

pub returns-then-not-is_entered-clause-asked : goal.returns-then-not-is_entered-clause-asked
returns-then-not-is_entered-clause-asked g c =
    change_asked g.N.Life.opens g.N.Life.entries g.N.Life.session_entries c.args.leaf.now _ c.leaf.view_is c.leaf.invariant c.args.pass.now c.requires.begins c.args.change.now.how c.args.change.now.tx c.args.change.now.key c.args.change.now.new
    c.requires.leaf c.requires.fits c.args.owner.now c.requires.may c.read.ensures _ c.make_group-made.ensures.is _ _ _ _ c.take.ensures.value c.take-2.ensures.value (c.rights.view_is ∙ c.none-rights.ensures) refl
    _ _ _ _ _ c.ask-answer.ensures.asked c.ask-answer.ensures.same c.ask-answer.ensures.holders _ _ _
    (sym c.in-Some.is ∙ c.take-4.ensures.value ∙ ap (λ (w : Claims). w.a) c.rights-2.view_is) (c.take-3.ensures.value ∙ ap (λ (w : Claims). w.s) c.rights-2.view_is) refl

pub invariant_of-leaf-2 : goal.invariant_of-leaf-2
invariant_of-leaf-2 g c =
    let rows_is = c.from_vec-2.ensures ∙ c.place.ensures ∙ (λ i. placed (c.row_of-row.ensures.is i) c.search-spot.result ((c.make_group-made.ensures.same ∙ c.taken_rows-rows.ensures) i)) in
    let state_is = row_put _ c.args.leaf.now _ c.args.change.now.key c.args.change.now.new c.search-spot.result _ c.leaf.view_is c.leaf.invariant c.requires.leaf c.search-spot.ensures.spot rows_is in
    change_settled g.N.Life.opens g.N.Life.entries g.N.Life.session_entries c.args.leaf.now _ c.leaf.view_is c.leaf.invariant c.args.pass.now c.requires.begins c.args.change.now.how c.args.change.now.tx c.args.change.now.key c.args.change.now.new
    c.requires.leaf c.requires.fits c.args.owner.now c.requires.may c.read.ensures _ c.make_group-made.ensures.is _ _ _ _ c.take.ensures.value c.take-2.ensures.value (c.rights.view_is ∙ c.none-rights.ensures) refl
    _ _ _ _ _ c.ask-answer.ensures.asked c.ask-answer.ensures.same c.ask-answer.ensures.holders (c.if-not-is_entered.ensures.some refl) _ c.rights-2.view_is c.rights-2.invariant _ _ c.take-4.ensures.value c.in-Some.is _ _ _ c.lsn-leaf-inside.ensures state_is c.copy.ensures.copy

pub returns-clause-done : goal.returns-clause-done
returns-clause-done g c =
    let rows_is = c.from_vec-2.ensures ∙ c.place.ensures ∙ (λ i. placed (c.row_of-row.ensures.is i) c.search-spot.result ((c.make_group-made.ensures.same ∙ c.taken_rows-rows.ensures) i)) in
    let state_is = row_put _ c.args.leaf.now _ c.args.change.now.key c.args.change.now.new c.search-spot.result _ c.leaf.view_is c.leaf.invariant c.requires.leaf c.search-spot.ensures.spot rows_is in
    on_all c.ask-answer.result _ (record { page = ap (λ (h : Hand). h.page) c.leaf.view_is; state = sym state_is; pass = c.copy.ensures.copy ∙ sym c.copy.ensures.same; dirty = refl })

pub returns-then-not-is_entered-clause-owner : goal.returns-then-not-is_entered-clause-owner
returns-then-not-is_entered-clause-owner g c =
    change_owner g.N.Life.opens g.N.Life.entries g.N.Life.session_entries c.args.leaf.now _ c.leaf.view_is c.leaf.invariant c.args.pass.now c.requires.begins c.args.change.now.how c.args.change.now.tx c.args.change.now.key c.args.change.now.new
    c.requires.leaf c.requires.fits c.args.owner.now c.requires.may c.read.ensures _ c.make_group-made.ensures.is _ _ _ _ c.take.ensures.value c.take-2.ensures.value (c.rights.view_is ∙ c.none-rights.ensures) refl
    _ _ _ _ _ c.ask-answer.ensures.asked c.ask-answer.ensures.same c.ask-answer.ensures.holders _ (c.take-3.ensures.value ∙ ap (λ (w : Claims). w.s) c.rights-2.view_is)

pub returns-clause-owner : goal.returns-clause-owner
returns-clause-owner g c =
    change_owner g.N.Life.opens g.N.Life.entries g.N.Life.session_entries c.args.leaf.now _ c.leaf.view_is c.leaf.invariant c.args.pass.now c.requires.begins c.args.change.now.how c.args.change.now.tx c.args.change.now.key c.args.change.now.new
    c.requires.leaf c.requires.fits c.args.owner.now c.requires.may c.read.ensures _ c.make_group-made.ensures.is _ _ _ _ c.take.ensures.value c.take-2.ensures.value (c.rights.view_is ∙ c.none-rights.ensures) refl
    _ _ _ _ _ c.ask-answer.ensures.asked c.ask-answer.ensures.same c.ask-answer.ensures.holders _ (c.take-3.ensures.value ∙ ap (λ (w : Claims). w.s) c.rights-2.view_is)
