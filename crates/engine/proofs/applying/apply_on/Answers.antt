use Rattle.std.proofs.Common.{sym, ◌∙◌}
use Rattle.engine.proofs.KeptLocks.{may_apply, may_speak}
use Rattle.engine.proofs.Refusing.{may_refuse}
use Rattle.engine.proofs.applying.apply_on.Goals as goal

pub enter_change-requires-clause-may : goal.enter_change-requires-clause-may
enter_change-requires-clause-may g c =
    may_apply g.N.Life.opens c.args.pass.now.log c.args.key.now c.args.owner.now c.args.leaf.now _ c.copied-named.result c.transaction_of.result c.args.operator c.args.argument c.lookup-old.result c.made_by-new.result c.requires.owner c.transaction_of.ensures c.copied-named.ensures c.leaf.view_is c.lookup-old.ensures c.made_by-new.ensures (sym c.is_some.ensures ∙ c.if-is_some.true)

pub decline-requires-clause-owner : goal.decline-requires-clause-owner
decline-requires-clause-owner g c =
    may_speak g.N.Life.opens c.args.pass.now.log c.args.key.now c.args.owner.now c.requires.owner

pub decline-requires-clause-may : goal.decline-requires-clause-may
decline-requires-clause-may g c =
    may_refuse g.N.Life.opens c.args.pass.now.log c.args.key.now c.copied-named.result c.args.owner.now c.args.leaf.now _ c.args.operator c.args.argument c.lookup-old.result c.made_by-new.result c.requires.read c.requires.leaf c.copied-named.ensures c.leaf.view_is c.lookup-old.ensures c.made_by-new.ensures (sym c.is_some.ensures ∙ c.if-is_some.false)
