use Rattle.std.proofs.Common.{subst, ap, ◌∙◌, sym}
use Rattle.log_blocks.specs.LogState.{LogState}
use Rattle.log_manager.specs.Managed.{Managed}
use Rattle.log_manager.specs.Records.{IsLogOf}
use Rattle.log_manager.proofs.Logs.{kept_same}
use Rattle.log_manager.proofs.manager.LogManager.fuse.Goals as goal

pub returns-clause-records : goal.returns-clause-records
returns-clause-records g c tells before s w h =
    let view = ap (λ (m : Managed _). m.log) c.self.view_is in
    let old = c.self.inside.log in
    let new = c.fuse.new.self in
    let same = c.fuse.ensures.same in
    kept_same g.L.Disk.told g.L.Disk.may_leave old new c.self.inside.batch.blocks before s w
    (same ∙ ap (λ e. record old { device = new.device; ended = e }) (sym (ap (λ (l : LogState _). l.ended) same))) (c.fuse.ensures.durable tells)
    (subst (λ (l : LogState _). IsLogOf g.L.Disk.told g.L.Disk.may_leave l before s w) (sym view) h)
