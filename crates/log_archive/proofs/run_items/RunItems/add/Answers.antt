use Rattle.std.proofs.Common.{◌≡◌, ◌++◌, ◌∷◌, [], length, refl, sym, ap, subst, ◌∙◌, arith}
use Rattle.log_archive.specs.Run.{item_bytes, items_size}
use Rattle.log_archive.specs.Shelves.{Gathering, HasItems}
use Rattle.log_archive.specs.declared.item.Numbered.{Numbered}
use Rattle.log_archive.proofs.run_items.RunItems.add.Goals as goal

pub returns : goal.returns
returns c = λ items has.
    let x : Numbered = record { lsn = c.args.lsn; rec = c.args.rec.now } in
    let here : HasItems (record { size = c.self.inside.size; shelves = c.self.inside.shelves.items }) items = subst (λ (g : Gathering). HasItems g items) (sym c.self.view_is) has in
    let bytes : c.in_ok-item.item.items ≡ item_bytes x = c.in_ok-item.ensures in
    let long : c.len.result ≡ length (item_bytes x) = omega (arith, c.len.ensures, c.in_ok-item.item.ok.0, ap length bytes) in
    let more = c.size_with-size.ensures items x refl long here.size in
    let same : c.size_with-size.result ≡ items_size (items ++ x ∷ []) = omega (arith, more, c.if-size-most.false, c.requires.most) in
    (record { size = same; holds = c.in_ok-add_record.ensures.more items x refl (c.deref.ensures.value ∙ bytes) here.holds }, omega (arith, same, c.if-size-most.false))
