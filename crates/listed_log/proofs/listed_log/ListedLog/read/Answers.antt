use Rattle.std.proofs.Common.{ap}
use Rattle.log_manager.specs.Managed.{Managed}
use Rattle.listed_log.proofs.KeptBlocks.{found_in, kept_read}
use Rattle.listed_log.proofs.Leaving.{read_leaves}
use Rattle.listed_log.proofs.listed_log.ListedLog.read.Goals as goal

pub returns-clause-found : goal.returns-clause-found
returns-clause-found g c tells goes rs k =
    let read = c.read.ensures in
    found_in g.L.Disk.tells g.L.Disk.told g.L.Disk.may_leave g.L.Disk.faults goes rs c.args.self.now.log c.read.new.self c.args.self.now.listing k c.args.lsn c.requires.kept.0 tells c.read.result (read.found tells) read.live read.refused

pub returns-clause-same : goal.returns-clause-same
returns-clause-same g c goes rs k =
    let read = c.read.ensures in
    kept_read g.L.Disk.tells g.L.Disk.told g.L.Disk.may_leave goes rs c.args.self.now.log c.read.new.self c.args.self.now.listing k g.L.Disk.faults c.read.result (ap (λ (m : Managed _). m.log.next) read.same) read.records read.live read.refused

pub returns-clause-left : goal.returns-clause-left
returns-clause-left g c goes rs k tells runs w =
    let read = c.read.ensures in
    let held = k.records tells runs in
    read_leaves g.L.Disk.told g.L.Disk.may_leave g.L.Disk.faults c.args.self.now.log c.read.new.self rs k.lawful held k.next runs w read.same (read.records tells _ held.stable held.waiting held.blocks)
