use Rattle.std.proofs.Common.{List, ap, subst, ◌∙◌, refl}
use Rattle.media_mem.specs.Shelf.{Held, HasNone, IsFirst, stored}
use Rattle.media_mem.proofs.Shelves.{set_stored, set_others, push_stored, push_others}
use Rattle.media_mem.proofs.vault.place.Goals as goal

pub returns-in-Some-clause-ok : goal.returns-in-Some-clause-ok
returns-in-Some-clause-ok c = set_stored c.args.name c.args.objects.now.items c.in-Some.i _ (subst (IsFirst c.args.name c.in-Some.i) c.deref.ensures.value c.in-Some.ensures.1) refl

pub returns-in-Some-clause-others : goal.returns-in-Some-clause-others
returns-in-Some-clause-others c other ne = set_others c.args.name other c.args.objects.now.items c.in-Some.i _ (subst (IsFirst c.args.name c.in-Some.i) c.deref.ensures.value c.in-Some.ensures.1) refl ne

pub returns-in_ok-push-in-None-clause-ok : goal.returns-in_ok-push-in-None-clause-ok
returns-in_ok-push-in-None-clause-ok c =
    ap (λ (l : List Held). stored l c.args.name) c.in_ok-push-in-None.ensures.items ∙ push_stored c.args.name c.args.objects.now.items _ (subst (HasNone c.args.name) c.deref.ensures.value c.in-None.ensures) refl

pub returns-in_ok-push-in-None-clause-others : goal.returns-in_ok-push-in-None-clause-others
returns-in_ok-push-in-None-clause-others c other ne =
    ap (λ (l : List Held). stored l other) c.in_ok-push-in-None.ensures.items ∙ push_others c.args.name other c.args.objects.now.items _ refl ne
