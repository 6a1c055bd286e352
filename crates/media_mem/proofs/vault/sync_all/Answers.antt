use Rattle.std.proofs.Common.{◌∙◌, ap, sym, arith, length, set}
use Rattle.std.proofs.lemmas.List.Edits.{map_over_more}
use Rattle.media_mem.specs.Shelf.{Held, synced_object}
use Rattle.media_mem.proofs.vault.sync_all.Goals as goal

pub loop-object-preserved : goal.loop-object-preserved
loop-object-preserved c =
    let i = c.loop-object.object-index in
    ap (λ (x : Held). set c.loop-object.object-items i x) (c.sync_one.ensures ∙ ap synced_object (sym c.object-item.is))
    ∙ map_over_more synced_object c.args.objects.now.items c.loop-object.object-items i c.object-item.result
    (omega (arith, c.loop-object-test.true, ap length c.deref_mut-object-items.ensures.value)) c.loop-object.invariant c.object-item.is
