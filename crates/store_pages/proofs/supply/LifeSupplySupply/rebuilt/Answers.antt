use Rattle.std.proofs.Common.{sym}
use Rattle.segment_restore.proofs.Chains.{based, head_later, upheld_both}
use Rattle.segment_restore.proofs.Owned.{result_after}
use Rattle.store_pages.proofs.supply.LifeSupplySupply.rebuilt.Goals as goal

pub rebuild_in_life-requires-2-clause-head : goal.rebuild_in_life-requires-2-clause-head
rebuild_in_life-requires-2-clause-head g c =
    let u = c.base.ensures.entered in
    head_later g.N.Life.opens c.args.pass.now.log c.base.new.pass.log c.args.page c.args.head (u.gained, sym u.is) c.requires.head

pub rebuild_in_life-requires-2-clause-base : goal.rebuild_in_life-requires-2-clause-base
rebuild_in_life-requires-2-clause-base g c = based g.N.Life.opens c.base.new.pass.log c.args.page c.args.head _ c.sealed_of-base.result c.sealed_of-base.ensures c.in_ok-base.ensures.base

pub returns-clause-entered : goal.returns-clause-entered
returns-clause-entered g c = upheld_both _ _ _ _ _ _ _ _ _ c.base.ensures.entered c.rebuild_in_life-2.ensures.entered

pub returns-clause-refused : goal.returns-clause-refused
returns-clause-refused g c =
    result_after g.N.Life.opens g.N.Life.log_faults g.N.Life.made c.args.self.now.bases.faults c.base.new.self.faults (g.J.Entering.account c.args.journal.now) (g.J.Entering.account c.base.new.journal) (g.J.Entering.account c.rebuild_in_life-2.new.journal)
    c.rebuild_in_life-2.new.pass.log c.in_ok-base.ensures.open c.base.ensures.entered.keeps _ c.rebuild_in_life-2.result c.base.ensures.faults c.rebuild_in_life-2.ensures.refused
