use Rattle.std.proofs.Common.{ap, sym, ◌∙◌}
use Rattle.media_mem.specs.Shelf.{Held, same_name}
use Rattle.media_mem.proofs.Shelves.{first_at, none_more}
use Rattle.media_mem.proofs.vault.find.Goals as goal

pub returns-then-is_same : goal.returns-then-is_same
returns-then-is_same c =
    let name = c.args.name.now in
    let same = ap (λ (o : Held). same_name o.name name) (sym c.object.view_is) ∙ sym c.is_same.ensures ∙ c.if-is_same.true in
    (c.loop-i-test.true, first_at name c.args.objects.now c.loop-i.i c.index-objects-i.result c.loop-i.invariant c.loop-i-test.true c.index-objects-i.is same)

pub loop-i-preserved : goal.loop-i-preserved
loop-i-preserved c =
    let name = c.args.name.now in
    let other = ap (λ (o : Held). same_name o.name name) (sym c.object.view_is) ∙ sym c.is_same.ensures ∙ c.if-is_same.false in
    none_more name c.args.objects.now c.loop-i.i c.index-objects-i.result c.loop-i.invariant c.loop-i-test.true c.index-objects-i.is other
