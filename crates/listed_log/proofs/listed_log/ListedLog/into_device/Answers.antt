use Rattle.std.proofs.Common.{sym, subst}
use Rattle.log_blocks.specs.LogState.{durable_lsn}
use Rattle.stop_laws.specs.Stops.{KeepsFirst}
use Rattle.listed_log.proofs.Leaving.{keeps_durable}
use Rattle.listed_log.proofs.listed_log.ListedLog.into_device.Goals as goal

pub returns-clause-left : goal.returns-clause-left
returns-clause-left g c goes rs k tells runs w =
    subst (KeepsFirst g.L.Disk.told g.L.Disk.may_leave rs (durable_lsn c.args.self.log.log.places)) (sym c.into_device.ensures)
    (keeps_durable g.L.Disk.told g.L.Disk.may_leave c.args.self.log.log rs (k.records tells runs) k.next k.lawful w)
