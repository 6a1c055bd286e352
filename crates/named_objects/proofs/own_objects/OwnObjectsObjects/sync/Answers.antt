use Rattle.std.proofs.Common.{subst, sym}
use Rattle.std.specs.Prelude.{Option}
use Rattle.named_objects.specs.declared.draft.Draft.{Draft}
use Rattle.named_objects.proofs.Keeping.{Holds, sync_done, sync_failed}
use Rattle.named_objects.proofs.own_objects.OwnObjectsObjects.sync.Goals as goal

pub invariant_of-self : goal.invariant_of-self
invariant_of-self g c = sync_failed g.N.Life.opens g.V.Vault.tells g.V.Vault.told c.self.inside.right c.self.inside.pass.log c.self.inside.vault c.sync.new.self c.self.inside.draft c.self.invariant c.sync.ensures.may_sync

pub invariant_of-self-2 : goal.invariant_of-self-2
invariant_of-self-2 g c =
    subst (λ (d : Option Draft). Holds g.N.Life.opens g.V.Vault.tells g.V.Vault.told c.self.inside.right c.self.inside.pass.log c.sync.new.self d) (sym c.mark_synced.ensures)
    (sync_done g.N.Life.opens g.V.Vault.tells g.V.Vault.told c.self.inside.right c.self.inside.pass.log c.self.inside.vault c.sync.new.self c.self.inside.draft c.self.invariant c.in_ok-sync.ensures.synced)
