use Rattle.std.proofs.Common.{◌++◌, subst, ap, ◌∙◌, sym}
use Rattle.log_blocks.specs.LogState.{LogState, checkpoint_of}
use Rattle.log_manager.specs.Managed.{Managed, first_kept}
use Rattle.log_manager.specs.Records.{IsLastCheckpoint, IsLogOf}
use Rattle.log_manager.proofs.Logs.{checkpoint_counted, checkpoint_last}
use Rattle.log_manager.proofs.manager.LogManager.checkpoint.Goals as goal

pub returns-clause-header : goal.returns-clause-header
returns-clause-header g c tells before s w h =
    let view = ap (λ (m : Managed _). m.log) c.self.view_is in
    checkpoint_counted g.L.Disk.told g.L.Disk.may_leave c.self.inside.log c.self.inside.batch.blocks c.self.inside.batch.spare c.self.inside.counted before s w c.self.invariant.counted
    (subst (λ (l : LogState _). IsLogOf g.L.Disk.told g.L.Disk.may_leave l before s w) (sym view) h)
    ∙ ap checkpoint_of view

pub returns-clause-last : goal.returns-clause-last
returns-clause-last g c tells before s w h =
    let view = ap (λ (m : Managed _). m.log) c.self.view_is in
    let is = checkpoint_counted g.L.Disk.told g.L.Disk.may_leave c.self.inside.log c.self.inside.batch.blocks c.self.inside.batch.spare c.self.inside.counted before s w c.self.invariant.counted
    (subst (λ (l : LogState _). IsLogOf g.L.Disk.told g.L.Disk.may_leave l before s w) (sym view) h)
    ∙ ap checkpoint_of view in
    subst (IsLastCheckpoint before (first_kept c.args.self.now.log) (s ++ w)) (sym is) (checkpoint_last g.L.Disk.told g.L.Disk.may_leave c.args.self.now.log before s w h)
