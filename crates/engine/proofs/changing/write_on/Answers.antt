use Rattle.std.proofs.Common.{sym, ◌∙◌}
use Rattle.engine.proofs.KeptLocks.{may_change, may_speak, may_tell, both_none}
use Rattle.engine.proofs.changing.write_on.Goals as goal

pub enter_change-requires-clause-may : goal.enter_change-requires-clause-may
enter_change-requires-clause-may g c =
    may_change g.N.Life.opens c.args.pass.now.log c.args.key.now c.args.owner.now c.args.leaf.now _ c.copied-named.result c.transaction_of.result c.lookup-old.result c.args.new c.requires.owner c.transaction_of.ensures c.copied-named.ensures c.leaf.view_is c.lookup-old.ensures (sym c.is_change.ensures ∙ c.if-is_change.true)

pub tell-requires-clause-owner : goal.tell-requires-clause-owner
tell-requires-clause-owner g c =
    may_speak g.N.Life.opens c.args.pass.now.log c.args.key.now c.args.owner.now c.requires.owner

pub tell-requires-clause-may : goal.tell-requires-clause-may
tell-requires-clause-may g c =
    may_tell g.N.Life.opens c.args.pass.now.log c.args.key.now c.args.owner.now c.args.leaf.now _ c.copied-named.result c.lookup-old.result c.requires.owner c.copied-named.ensures c.leaf.view_is c.leaf.invariant c.requires.begins c.requires.leaf c.lookup-old.ensures (both_none c.lookup-old.result c.args.new (sym c.is_change.ensures ∙ c.if-is_change.false)).0
