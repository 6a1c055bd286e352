use Rattle.std.proofs.Common.{◌∙◌}
use Rattle.page_ops.specs.Seeing.{is_none, is_upkeep}
use Rattle.buffer_pool.proofs.Entering.{bring_behind_all, faults_self, looks, open_both, repairs_behind, upheld_both}
use Rattle.buffer_pool.proofs.Serving.{agrees_of}
use Rattle.buffer_pool.proofs.bringing.anew.Goals as goal

pub in_hand-requires-clause-agrees : goal.in_hand-requires-clause-agrees
in_hand-requires-clause-agrees g c = agrees_of _ _ _ (record { page = c.args.page; lsn = c.args.lsn }) (c.see.ensures.same ∙ c.requires.right) c.see.ensures.seen.now.rights

pub returns-clause-entered : goal.returns-clause-entered
returns-clause-entered g c = upheld_both _ _ _ is_upkeep _ _ _ (looks _ _ _ is_upkeep _ _ _ _ _ _ c.see.ensures.seen) c.in_hand.ensures.entered

pub returns-clause-refused : goal.returns-clause-refused
returns-clause-refused g c = bring_behind_all _ _ _ _ _ is_upkeep _ _ (looks _ _ _ is_upkeep _ _ _ _ _ _ c.see.ensures.seen) c.see.ensures.calm.end _ _ _ _ _ _ (faults_self _) c.in_hand.ensures.refused

pub returns-clause-open : goal.returns-clause-open
returns-clause-open g c = open_both _ _ _ _ c.see.ensures.calm.end c.in_hand.ensures.open

pub returns-clause-repairs : goal.returns-clause-repairs
returns-clause-repairs g c = repairs_behind _ _ _ c.args.page _ _ _ _ _ (looks _ _ _ is_none _ _ _ _ _ _ c.see.ensures.seen) c.in_hand.ensures.repairs
