use Rattle.std.proofs.Common.{subst}
use Rattle.std.specs.Prelude.{Option, IfSome}
use Rattle.books.specs.Rights.{MaintClaim}
use Rattle.page_ops.specs.Claims.{MaintAgrees}
use Rattle.named_objects.proofs.Keeping.{look_kept, looked, read, same_kept}
use Rattle.named_objects.proofs.own_objects.OwnObjectsObjects.get.Goals as goal

pub invariant_of-self : goal.invariant_of-self
invariant_of-self g c =
    let look = c.look.ensures in
    same_kept g.N.Life.opens g.V.Vault.tells g.V.Vault.told _ _ c.self.inside.vault _ c.self.inside.draft
    (look_kept g.N.Life.opens g.V.Vault.tells g.V.Vault.told c.self.inside.right c.look.new.right c.self.inside.pass c.look.new.own c.look.new.pass c.self.inside.vault c.self.inside.draft c.self.invariant look.right look.own look.begins look.seen.now.consistent look.agrees)
    c.get.ensures.same

pub returns-clause-bytes : goal.returns-clause-bytes
returns-clause-bytes g c =
    let look = c.look.ensures in
    let here = subst (λ (z : Option MaintClaim). IfSome z (MaintAgrees c.look.new.pass.log)) look.right look.agrees in
    let kept = looked g.N.Life.opens g.V.Vault.tells g.V.Vault.told c.self.inside.right c.self.inside.pass.log c.look.new.pass.log c.self.inside.vault c.self.inside.draft c.self.invariant look.begins look.seen.now.consistent here in
    read g.N.Life.opens g.V.Vault.tells g.V.Vault.told c.look.new.pass.log c.self.inside.vault c.args.name c.args.from _ _ c.get.result kept.2 kept.3 c.get.ensures.count c.get.ensures.bytes
