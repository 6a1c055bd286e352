use Rattle.std.proofs.Common.{◌∙◌, List, Option, ap, subst, sym}
use Rattle.std.specs.Option.{IfSome}
use Rattle.books.specs.Rights.{MaintClaim}
use Rattle.front.proofs.Keeping.{prefix_trans}
use Rattle.named_objects.specs.Named.{AreNamed}
use Rattle.named_objects.proofs.Keeping.{named_later}
use Rattle.page_ops.specs.Claims.{Claims, MaintAgrees}
use Rattle.wal_record.specs.declared.entry.Entry.{Entry}
use Rattle.own_life.proofs.leaving.leave_vault.Goals as goal

pub returns-clause-named : goal.returns-clause-named
returns-clause-named g c = λ t.
    let seen = c.see.ensures.seen in
    let here = subst (λ (m : Option MaintClaim). IfSome m (MaintAgrees c.see.new.pass.log)) (ap (λ (x : Claims). x.m) c.see.ensures.rights) seen.now.rights.m in
    subst (λ (h : List Entry). AreNamed g.N.Life.opens g.V.Vault.told h c.into_parts-vault.result.0) c.see.ensures.pass
    (named_later g.N.Life.opens g.V.Vault.tells g.V.Vault.told c.into_parts-vault.result.2.log c.see.new.pass.log c.into_parts-vault.result.0 c.into_parts-vault.ensures.named (prefix_trans _ _ _ c.meet.ensures.other seen.now.begins) seen.now.consistent (sym here ∙ c.into_parts-vault.ensures.right) t)
