use Rattle.std.proofs.Common.{refl, ◌∙◌}
use Rattle.group_laws.proofs.MayPut.{may_put, put_entered, put_unasked}
use Rattle.group_laws.proofs.putting.enter_put.Goals as goal

pub enter-entered-requires-clause-askable : goal.enter-entered-requires-clause-askable
enter-entered-requires-clause-askable g c =
    may_put _ _ _ _ _ _ _ _ _ _ _ _ _ c.leaf.view_is c.leaf.invariant c.requires.begins c.requires.agrees c.requires.number c.requires.live c.requires.locked c.requires.leaf c.requires.old c.requires.fits
    (c.rights.view_is ∙ c.none-rights.ensures) refl c.session-number.ensures c.tx-tx.ensures c.group_of-made.ensures.spelled c.in-Ok.ensures.is

pub returns-clause-entered : goal.returns-clause-entered
returns-clause-entered g c =
    put_entered _ _ _ _ _ _ _ _ _ _ _ c.leaf.view_is (c.rights.view_is ∙ c.none-rights.ensures) refl c.session-number.ensures c.tx-tx.ensures c.in-Ok.ensures.is _ _ _ _ _ _ _ _ _ _ c.enter-entered.ensures.entered

pub returns-in_default-clause-entered : goal.returns-in_default-clause-entered
returns-in_default-clause-entered g c =
    put_unasked _ _ _ _ c.args.leaf _ c.args.session _ _ _ _ _ _ _ c.leaf.view_is (c.rights.view_is ∙ c.none-rights.ensures) refl c.see.ensures.seen
