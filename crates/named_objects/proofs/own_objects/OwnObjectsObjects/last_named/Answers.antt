use Rattle.named_objects.proofs.Keeping.{look_kept}
use Rattle.named_objects.proofs.own_objects.OwnObjectsObjects.last_named.Goals as goal

pub invariant_of-self : goal.invariant_of-self
invariant_of-self g c =
    let look = c.look.ensures in
    look_kept g.N.Life.opens g.V.Vault.tells g.V.Vault.told c.self.inside.right c.look.new.right c.self.inside.pass c.look.new.own c.look.new.pass c.self.inside.vault c.self.inside.draft c.self.invariant look.right look.own look.begins look.seen.now.consistent look.agrees
