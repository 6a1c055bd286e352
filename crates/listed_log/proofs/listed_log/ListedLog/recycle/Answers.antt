use Rattle.std.proofs.Common.{ℕ, drop, ap, ◌∙◌}
use Rattle.log_manager.specs.Managed.{Managed, before_lsn, first_kept}
use Rattle.wal_record.specs.Checkpoints.{recycle_point}
use Rattle.listed_log.proofs.KeptBlocks.{first_left, kept_recycled, needed_left, stays_durable}
use Rattle.listed_log.proofs.Leaving.{point_low, recycle_leaves}
use Rattle.listed_log.proofs.listed_log.ListedLog.recycle.Goals as goal

pub returns-in-Ok-clause-needed : goal.returns-in-Ok-clause-needed
returns-in-Ok-clause-needed g c goes rs k =
    let drop = c.recycle_to.ensures in
    needed_left (first_kept c.args.self.now.log.log) (first_kept c.recycle_to.new.self.log) c.unneeded-point.result (recycle_point rs) c.first_kept.result _ _ (first_left c.args.self.now.log c.recycle_to.new.self c.unneeded-point.result drop.these c.in-Ok.ensures.dropped) c.first_kept.ensures (c.unneeded-point.ensures.low goes rs k)

pub returns-in-Ok-clause-forgets : goal.returns-in-Ok-clause-forgets
returns-in-Ok-clause-forgets g c goes rs k all =
    let ps = c.args.self.now.log.log.places in
    ap (λ (m : Managed _). m.log.places) c.in-Ok.ensures.dropped ∙ ap (λ (n : ℕ). drop (before_lsn n ps) ps) (c.unneeded-point.ensures.all goes rs k all)

pub returns-in-Ok-clause-same : goal.returns-in-Ok-clause-same
returns-in-Ok-clause-same g c goes rs k =
    let drop = c.recycle_to.ensures in
    kept_recycled g.L.Disk.tells g.L.Disk.told g.L.Disk.may_leave g.L.Disk.faults goes rs c.args.self.now.log c.recycle_to.new.self c.args.self.now.listing k (ap (λ (m : Managed _). m.log.next) c.in-Ok.ensures.dropped) c.unneeded-point.result c.recycle_to.result drop.records drop.live drop.refused

pub returns-in-Err-clause-same : goal.returns-in-Err-clause-same
returns-in-Err-clause-same g c goes rs k =
    let drop = c.recycle_to.ensures in
    kept_recycled g.L.Disk.tells g.L.Disk.told g.L.Disk.may_leave g.L.Disk.faults goes rs c.args.self.now.log c.recycle_to.new.self c.args.self.now.listing k (ap (λ (m : Managed _). m.log.next) c.in-Err.ensures.same) c.unneeded-point.result c.recycle_to.result drop.records drop.live drop.refused

pub returns-in-Ok-clause-rises : goal.returns-in-Ok-clause-rises
returns-in-Ok-clause-rises g c goes rs k tells runs =
    let drop = c.recycle_to.ensures in
    stays_durable g.L.Disk.tells g.L.Disk.told g.L.Disk.may_leave g.L.Disk.faults goes rs c.args.self.now.log c.recycle_to.new.self c.args.self.now.listing k (ap (λ (m : Managed _). m.log.next) c.in-Ok.ensures.dropped) c.unneeded-point.result c.recycle_to.result drop.records drop.same tells runs

pub returns-in-Err-clause-rises : goal.returns-in-Err-clause-rises
returns-in-Err-clause-rises g c goes rs k tells runs =
    let drop = c.recycle_to.ensures in
    stays_durable g.L.Disk.tells g.L.Disk.told g.L.Disk.may_leave g.L.Disk.faults goes rs c.args.self.now.log c.recycle_to.new.self c.args.self.now.listing k (ap (λ (m : Managed _). m.log.next) c.in-Err.ensures.same) c.unneeded-point.result c.recycle_to.result drop.records drop.same tells runs

pub returns-in-Ok-clause-left : goal.returns-in-Ok-clause-left
returns-in-Ok-clause-left g c goes rs k tells runs w =
    let drop = c.recycle_to.ensures in
    let held = k.records tells runs in
    let later = kept_recycled g.L.Disk.tells g.L.Disk.told g.L.Disk.may_leave g.L.Disk.faults goes rs c.args.self.now.log c.recycle_to.new.self c.args.self.now.listing k (ap (λ (m : Managed _). m.log.next) c.in-Ok.ensures.dropped) c.unneeded-point.result c.recycle_to.result drop.records drop.live drop.refused in
    let low = point_low g.L.Disk.told g.L.Disk.may_leave g.L.Disk.faults c.args.self.now.log c.recycle_to.new.self rs k.lawful held k.next runs w c.unneeded-point.result (c.unneeded-point.ensures.low goes rs k) in
    recycle_leaves g.L.Disk.told g.L.Disk.may_leave g.L.Disk.faults c.args.self.now.log c.recycle_to.new.self rs k.lawful held k.next runs w c.recycle_to.result c.unneeded-point.result low drop.these drop.dropped drop.same
    (later.records tells) (drop.left tells _ held.stable held.waiting held.blocks) drop.live drop.refused

pub returns-in-Err-clause-left : goal.returns-in-Err-clause-left
returns-in-Err-clause-left g c goes rs k tells runs w =
    let drop = c.recycle_to.ensures in
    let held = k.records tells runs in
    let later = kept_recycled g.L.Disk.tells g.L.Disk.told g.L.Disk.may_leave g.L.Disk.faults goes rs c.args.self.now.log c.recycle_to.new.self c.args.self.now.listing k (ap (λ (m : Managed _). m.log.next) c.in-Err.ensures.same) c.unneeded-point.result c.recycle_to.result drop.records drop.live drop.refused in
    let low = point_low g.L.Disk.told g.L.Disk.may_leave g.L.Disk.faults c.args.self.now.log c.recycle_to.new.self rs k.lawful held k.next runs w c.unneeded-point.result (c.unneeded-point.ensures.low goes rs k) in
    recycle_leaves g.L.Disk.told g.L.Disk.may_leave g.L.Disk.faults c.args.self.now.log c.recycle_to.new.self rs k.lawful held k.next runs w c.recycle_to.result c.unneeded-point.result low drop.these drop.dropped drop.same
    (later.records tells) (drop.left tells _ held.stable held.waiting held.blocks) drop.live drop.refused
