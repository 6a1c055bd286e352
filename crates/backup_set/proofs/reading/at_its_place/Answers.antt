use Rattle.std.proofs.Common.{◌≡◌, ℕ, List, take, sym, ap, subst, ◌∙◌, arith}
use Rattle.std.specs.Prelude.{IfOk, IfSome}
use Rattle.std.proofs.lemmas.List.{take-take}
use Rattle.media.specs.Objects.{bytes_of}
use Rattle.store_model.specs.declared.object.ObjectName.{ObjectName}
use Rattle.backup_set.specs.Answers.{HasAt}
use Rattle.backup_set.specs.Backup.{backup_name}
use Rattle.backup_set.specs.Reading.{head_at}
use Rattle.backup_set.proofs.Answering.{has_image}
use Rattle.backup_set.proofs.reading.at_its_place.Goals as goal

pub returns-in-Ok-clause-held : goal.returns-in-Ok-clause-held
returns-in-Ok-clause-held g c tells =
    let got : c.deref.result.now ≡ take 20 (bytes_of (g.V.Vault.told c.args.vault.now (backup_name c.args.part.backup c.args.part.segment))) =
    c.deref.ensures.value ∙ c.in_ok-head.ensures.bytes tells ∙ ap (λ (o : ObjectName). take 20 (bytes_of (g.V.Vault.told c.args.vault.now o))) c.name.ensures in
    let head = ap (λ (t : List ℕ). head_at c.args.part.backup c.args.part.segment t) (sym (take-take 20 20 _ (omega arith)) ∙ ap (take 20) (sym got)) ∙ c.in-Ok.ensures.count.2 in
    let there = ap bytes_of (c.in_ok-head.ensures.same tells (backup_name c.args.part.backup c.args.part.segment)) in
    has_image c.args.part.backup c.args.part.segment c.args.page c.in-Ok.count (c.place_of-place.result) _ c.image_at.result head c.if-place-count.true
    (subst (λ (t : List ℕ). IfOk c.image_at.result (λ found. IfSome found (HasAt c.args.page t (c.place_of-place.result)))) there (c.image_at.ensures.image tells))
