use Rattle.std.proofs.Common.{◌≡◌, ℕ, ◌+◌, ◌*◌, take, drop, sym, ap, ◌∙◌, arith}
use Rattle.std.proofs.lemmas.List.{take-take}
use Rattle.media.specs.Objects.{bytes_of}
use Rattle.store_model.specs.declared.object.ObjectName.{ObjectName}
use Rattle.backup_set.specs.Backup.{backup_name}
use Rattle.backup_set.proofs.reading.image_at.Goals as goal

pub returns-in-Ok-clause-image : goal.returns-in-Ok-clause-image
returns-in-Ok-clause-image g c tells =
    let f = c.in-Ok.ensures.found in
    let got : c.deref.result.now ≡ take 4096 (drop (20 + 4096 * c.args.place) (bytes_of (g.V.Vault.told c.args.vault.now (backup_name c.args.part.backup c.args.part.segment)))) =
    c.deref.ensures.value ∙ c.in_ok-bytes.ensures.bytes tells
    ∙ ap (λ (n : ℕ). take 4096 (drop (20 + 4096 * n) (bytes_of (g.V.Vault.told c.args.vault.now c.name.result)))) c.from.ensures
    ∙ ap (λ (o : ObjectName). take 4096 (drop (20 + 4096 * c.args.place) (bytes_of (g.V.Vault.told c.args.vault.now o)))) c.name.ensures in
    record { image = sym (take-take 4096 4096 _ (omega arith)) ∙ ap (take 4096) (sym got) ∙ sym c.in-Some.ensures.1 ∙ f.2; state = f.0; lsn = f.1 }
