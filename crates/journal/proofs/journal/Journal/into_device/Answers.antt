use Rattle.std.proofs.Common.{List, ap, subst, arith, ◌∙◌}
use Rattle.wal_record.specs.declared.entry.Entry.{Entry}
use Rattle.journal.specs.Stops.{Leaves}
use Rattle.journal.proofs.Stopping.{leaves}
use Rattle.journal.specs.State.{calls_of}
use Rattle.journal.proofs.Calls.{calls_is, history_is}
use Rattle.journal.proofs.journal.Journal.into_device.Goals as goal

pub returns-clause-left : goal.returns-clause-left
returns-clause-left g c =
    let k = c.self.invariant.1.life in
    let h = c.self.inside.history in
    let m = c.self.inside.log.log in
    let number = c.meet.ensures.seen ∙ c.self.invariant.0 in
    subst (λ (l : List Entry). Leaves g.N.Life.opens g.L.Disk.told g.L.Disk.may_leave l c.meet.new.pass.durable c.into_device.result) (history_is _ _ c.self.view_is)
    (leaves g.N.Life.opens g.L.Disk.tells g.L.Disk.told g.L.Disk.may_leave h h m m c.self.inside.log.listing k.records k.telling c.self.invariant.4 c.into_device.result c.meet.new.pass.durable c.into_device.ensures.device
    (λ opening stands tell. let low = k.durable opening stands tell in omega (arith, low, number)) c.into_device.ensures.left)

pub returns-clause-calls : goal.returns-clause-calls
returns-clause-calls g c = ap (calls_of g.L.Disk.passes g.L.Disk.refused g.L.Disk.own) c.into_device.ensures.device ∙ calls_is _ _ c.self.view_is
