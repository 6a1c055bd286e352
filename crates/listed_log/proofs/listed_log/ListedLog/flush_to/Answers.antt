use Rattle.std.proofs.Common.{sym, arith}
use Rattle.listed_log.proofs.Adding.{flushed}
use Rattle.listed_log.proofs.Leaving.{flush_leaves}
use Rattle.listed_log.proofs.listed_log.ListedLog.flush_to.Goals as goal

pub returns-clause-same : goal.returns-clause-same
returns-clause-same g c goes rs k =
    let flush = c.flush_to.ensures in
    flushed _ _ _ goes rs _ g.L.Disk.faults _ _ c.flush_to.result k flush.next.0 flush.records flush.live flush.refused

pub returns-clause-rises : goal.returns-clause-rises
returns-clause-rises g c goes rs k tells runs =
    let flush = c.flush_to.ensures in
    let held = k.records tells runs in
    let left = (flush.left tells _ held.stable held.waiting held.blocks).durable in
    omega (arith, left)

pub returns-clause-left : goal.returns-clause-left
returns-clause-left g c goes rs k tells runs w =
    let flush = c.flush_to.ensures in
    let held = k.records tells runs in
    flush_leaves g.L.Disk.told g.L.Disk.may_leave g.L.Disk.faults c.args.self.now.log c.flush_to.new.self rs k.lawful held k.next runs w c.groups_law.ensures c.flush_to.result flush.next.0 flush.first
    (flush.records tells _ held.stable held.waiting held.blocks) (flush.left tells _ held.stable held.waiting held.blocks) flush.live flush.refused

pub returns-clause-begins : goal.returns-clause-begins
returns-clause-begins g c = let done = c.flush_to.ensures.progress in (_, sym done.places_are)
