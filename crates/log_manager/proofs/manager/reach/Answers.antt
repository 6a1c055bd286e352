use Rattle.std.proofs.Common.{sym, subst}
use Rattle.log_blocks.specs.LogState.{LogState}
use Rattle.log_manager.specs.LastRead.{IsLastRead}
use Rattle.log_manager.proofs.Held.{last_more}
use Rattle.log_manager.proofs.manager.reach.Goals as goal

pub returns-clause-last : goal.returns-clause-last
returns-clause-last g c r h =
    subst (λ (l : LogState _). IsLastRead g.L.Disk.tells g.L.Disk.told l r) (sym c.hand_over.ensures.log) (last_more g.L.Disk.tells g.L.Disk.told c.args.log.now c.args.batch.now.blocks r h)
