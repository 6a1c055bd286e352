use Rattle.std.proofs.Common.{◌≡◌, subst}
use Rattle.media.specs.Objects.{OtherObjects, Unsynced}
use Rattle.store_model.specs.declared.object.ObjectName.{ObjectName}
use Rattle.named_objects.proofs.Keeping.{look_kept, means_own, put_done, put_failed, suits_own}
use Rattle.named_objects.proofs.own_objects.OwnObjectsObjects.put.Goals as goal

pub invariant_of-self : goal.invariant_of-self
invariant_of-self g c =
    let look = c.look-last.ensures in
    look_kept g.N.Life.opens g.V.Vault.tells g.V.Vault.told c.self.inside.right c.look-last.new.right c.self.inside.pass c.look-last.new.own c.look-last.new.pass c.self.inside.vault c.self.inside.draft c.self.invariant look.right look.own look.begins look.seen.now.consistent look.agrees

pub invariant_of-self-in_err-put : goal.invariant_of-self-in_err-put
invariant_of-self-in_err-put g c =
    let look = c.look-last.ensures in
    let opens = g.N.Life.opens in
    let tells = g.V.Vault.tells in
    let told = g.V.Vault.told in
    put_failed opens tells told _ _ c.self.inside.vault _ c.self.inside.draft c.args.naming
    (look_kept opens tells told c.self.inside.right c.look-last.new.right c.self.inside.pass c.look-last.new.own c.look-last.new.pass c.self.inside.vault c.self.inside.draft c.self.invariant look.right look.own look.begins look.seen.now.consistent look.agrees)
    (suits_own opens c.args.pass.now c.look-last.new.own c.look-last.new.pass c.args.since c.look-last.result c.args.naming look.own look.seen.now.begins look.seen.now.consistent c.requires.since look.place c.if-last-since.false c.requires.suits)
    (λ t. subst (λ (x : ObjectName). OtherObjects x (told c.self.inside.vault) (told c.put.new.self)) c.name.ensures (c.put.ensures.others t))

pub invariant_of-self-2 : goal.invariant_of-self-2
invariant_of-self-2 g c =
    let look = c.look-last.ensures in
    let opens = g.N.Life.opens in
    let tells = g.V.Vault.tells in
    let told = g.V.Vault.told in
    put_done opens tells told _ _ c.self.inside.vault _ c.self.inside.draft c.args.naming c.args.bytes.now
    (look_kept opens tells told c.self.inside.right c.look-last.new.right c.self.inside.pass c.look-last.new.own c.look-last.new.pass c.self.inside.vault c.self.inside.draft c.self.invariant look.right look.own look.begins look.seen.now.consistent look.agrees)
    (suits_own opens c.args.pass.now c.look-last.new.own c.look-last.new.pass c.args.since c.look-last.result c.args.naming look.own look.seen.now.begins look.seen.now.consistent c.requires.since look.place c.if-last-since.false c.requires.suits)
    (λ t. subst (λ (x : ObjectName). OtherObjects x (told c.self.inside.vault) (told c.put.new.self)) c.name.ensures (c.put.ensures.others t))
    (means_own opens c.args.pass.now c.look-last.new.own c.look-last.new.pass c.args.naming c.args.bytes.now look.own look.seen.now.begins c.requires.suits c.requires.tells)
    (λ t. subst (λ (x : ObjectName). told c.put.new.self x ≡ Unsynced c.args.bytes.now) c.name.ensures (c.in_ok-put.ensures.put t))
