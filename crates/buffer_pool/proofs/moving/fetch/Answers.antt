use Rattle.std.proofs.Common.{sym, ◌∙◌}
use Rattle.page_ops.specs.Seeing.{is_none, is_upkeep}
use Rattle.page_repair.proofs.Sparing.{spares_same}
use Rattle.page_repair.specs.Supplies.{is_restored}
use Rattle.buffer_pool.proofs.Coming.{brings_here, brings_there, stays_as}
use Rattle.buffer_pool.proofs.Entering.{gains_none, looks}
use Rattle.buffer_pool.proofs.moving.fetch.Goals as goal

pub returns-then-is_full-clause-brings : goal.returns-then-is_full-clause-brings
returns-then-is_full-clause-brings g c =
    brings_there _ _ _ c.args.page _ _ c.args.frames.now c.call_out.new.self c.call_out.new.self _ _ tt c.in_default.ensures.called (sym c.is_full.ensures ∙ c.if-is_full.true) (gains_none _ _ _ _ _ (looks _ _ _ is_none _ _ _ _ _ _ c.see.ensures.seen))

pub returns-then-is_full-clause-entered : goal.returns-then-is_full-clause-entered
returns-then-is_full-clause-entered g c = looks _ _ _ is_upkeep _ _ _ _ _ _ c.see.ensures.seen

pub returns-else-is_full-clause-brings : goal.returns-else-is_full-clause-brings
returns-else-is_full-clause-brings g c = (stays_as c.args.page c.args.frames.now c.call_out.new.self c.in_default.ensures.called.1, looks _ _ _ is_restored _ _ _ _ _ _ c.see.ensures.seen)

pub returns-else-is_full-clause-entered : goal.returns-else-is_full-clause-entered
returns-else-is_full-clause-entered g c = looks _ _ _ is_upkeep _ _ _ _ _ _ c.see.ensures.seen

pub returns-in-Ok-clause-brings : goal.returns-in-Ok-clause-brings
returns-in-Ok-clause-brings g c =
    brings_here _ _ _ c.args.page _ _ c.args.frames.now c.call_out.new.self c.put.new.self _ _ tt c.in-Some.right c.lsn-lsn.result c.in-Ok.held c.lsn-lsn.ensures c.in-Some.ensures.called c.in-Some.ensures.right.0 c.in-Some.ensures.right.2 c.put.ensures c.in-Ok.ensures.brings

pub returns-then-is_full-clause-spared : goal.returns-then-is_full-clause-spared
returns-then-is_full-clause-spared g c = λ t. spares_same g.N.Life.opens c.args.page g.I.Images.newest _ _ c.args.images.now

pub returns-else-is_full-clause-spared : goal.returns-else-is_full-clause-spared
returns-else-is_full-clause-spared g c = λ t. spares_same g.N.Life.opens c.args.page g.I.Images.newest _ _ c.args.images.now
