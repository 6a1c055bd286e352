use Rattle.std.proofs.Common.{List, ap, arith, subst, sym, ◌∙◌}
use Rattle.front.proofs.Keeping.{prefix_trans}
use Rattle.journal.specs.State.{JournalState}
use Rattle.journal.specs.Stops.{Leaves}
use Rattle.named_objects.specs.Named.{AreNamed}
use Rattle.plain_store.proofs.Earlier.{written_left}
use Rattle.wal_record.specs.declared.entry.Entry.{Entry}
use Rattle.own_life.specs.State.{LifeState}
use Rattle.own_life.proofs.life.OwnLife.into_devices.Goals as goal

pub returns : goal.returns
returns g c =
    let same = ap (λ (j : JournalState). j.history) c.leave_vault-vault.ensures.same.0 in
    let was = sym c.self.invariant.whole ∙ ap (λ (s : LifeState). s.history) c.self.view_is in
    let is = same ∙ was in
    let durable = ap (λ (s : LifeState). s.durable) c.self.view_is in
    let met = c.into_parts-device.ensures.seen.1 in
    let left = c.leave_vault-vault.ensures.seen.1 in
    let more = c.into_device-log.ensures.before in
    record {
      left = record {
        kept = c.into_device-log.new.pass.durable;
        durable = omega (arith, durable, met, left, more);
        left = subst (λ (h : List Entry). Leaves g.N.Life.opens g.L.Disk.told g.L.Disk.may_leave h c.into_device-log.new.pass.durable c.into_device-log.result) is c.into_device-log.ensures.left;
        images = λ t. written_left g.N.Life.opens g.D.PageDevice.told c.into_parts-device.result.0 c.into_parts-device.new.pass c.into_device-log.new.pass _ (prefix_trans _ _ _ c.leave_vault-vault.ensures.seen.0 c.into_device-log.ensures.begins) (omega (arith, left, more)) (c.into_device-log.ensures.pass ∙ is) (c.into_parts-device.ensures.written t);
        objects = λ t. subst (λ (h : List Entry). AreNamed g.N.Life.opens g.V.Vault.told h c.leave_vault-vault.result) was (c.leave_vault-vault.ensures.named t);
        calls = c.into_device-log.ensures.calls ∙ ap (λ (j : JournalState). j.calls) c.leave_vault-vault.ensures.same.0 ∙ ap (λ (s : LifeState). s.calls) c.self.view_is;
      };
    }
