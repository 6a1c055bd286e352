use Rattle.named_objects.proofs.Keeping.{same_kept}
use Rattle.named_objects.proofs.own_objects.OwnObjects.fuse.Goals as goal

pub invariant_of-self : goal.invariant_of-self
invariant_of-self g c = same_kept g.N.Life.opens g.V.Vault.tells g.V.Vault.told c.self.inside.right c.self.inside.pass.log c.self.inside.vault c.fuse.new.self c.self.inside.draft c.self.invariant c.fuse.ensures.same
