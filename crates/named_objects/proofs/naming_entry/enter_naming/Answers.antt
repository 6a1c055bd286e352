use Rattle.std.proofs.Common.{◌≡◌, ◌∙◌, ap, subst, sym}
use Rattle.std.specs.Prelude.{Option, IfSome, IsSome}
use Rattle.books.specs.Rights.{MaintClaim}
use Rattle.page_ops.specs.Claims.{Claims, MaintAgrees}
use Rattle.named_objects.proofs.EnteredNamings.{entered_none, is_askable, kept_right}
use Rattle.named_objects.proofs.naming_entry.enter_naming.Goals as goal

pub enter-entered-requires-clause-askable : goal.enter-entered-requires-clause-askable
enter-entered-requires-clause-askable g c =
    is_askable g.N.Life.opens c.args.naming c.in-Ok.group c.in-Ok.ensures c.args.pass.now.log (record { a = c.claims.inside.a; b = c.claims.inside.b; c = c.claims.inside.c; s = c.claims.inside.s; m = c.take.result })
    (subst (λ (m : Option MaintClaim). IsSome m) (sym c.take.ensures.value) c.requires.right) (subst (λ (m : Option MaintClaim). IfSome m (MaintAgrees c.args.pass.now.log)) (sym c.take.ensures.value) c.requires.agrees) c.requires.suits

pub returns-clause-right : goal.returns-clause-right
returns-clause-right g c =
    let kept : c.enter-entered.new.rights.m ≡ c.take.result = kept_right c.in-Err.fault (record { a = c.claims.inside.a; b = c.claims.inside.b; c = c.claims.inside.c; s = c.claims.inside.s; m = c.take.result }) c.enter-entered.new.rights c.in-Err.ensures.same in
    subst (λ (m : Option MaintClaim). IsSome m) (sym (c.take-2.ensures.value ∙ ap (λ (x : Claims). x.m) c.claims-2.view_is ∙ kept ∙ c.take.ensures.value)) c.requires.right

pub returns-clause-same : goal.returns-clause-same
returns-clause-same g c =
    let kept : c.enter-entered.new.rights.m ≡ c.take.result = kept_right c.in-Err.fault (record { a = c.claims.inside.a; b = c.claims.inside.b; c = c.claims.inside.c; s = c.claims.inside.s; m = c.take.result }) c.enter-entered.new.rights c.in-Err.ensures.same in
    c.take-2.ensures.value ∙ ap (λ (x : Claims). x.m) c.claims-2.view_is ∙ kept ∙ c.take.ensures.value

pub returns-clause-entered : goal.returns-clause-entered
returns-clause-entered g c =
    entered_none g.N.Life.opens g.N.Life.entries g.N.Life.session_entries c.args.naming c.in-Ok.group c.enter-entered.new.group c.in-Ok.ensures _ _ _ _
    (record { a = c.claims.inside.a; b = c.claims.inside.b; c = c.claims.inside.c; s = c.claims.inside.s; m = c.take.result }) c.enter-entered.new.rights _ _ c.take.ensures.value (sym (c.take-2.ensures.value ∙ ap (λ (x : Claims). x.m) c.claims-2.view_is))
    c.in-Err.fault c.in-Err.ensures.entered
