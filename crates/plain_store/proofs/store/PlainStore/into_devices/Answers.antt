use Rattle.std.proofs.Common.{arith}
use Rattle.plain_store.proofs.Earlier.{written_left}
use Rattle.plain_store.proofs.store.PlainStore.into_devices.Goals as goal

pub returns-clause-left : goal.returns-clause-left
returns-clause-left g c = (
  c.into_device-log.new.pass.durable,
  (let met = c.into_device-device.ensures.seen.1 in let more = c.into_device-log.ensures.before in omega (arith, met, more)),
  c.into_device-log.ensures.left,
  λ t. written_left g.N.Life.opens g.P.PageDevice.told c.into_device-device.result c.into_device-device.new.pass c.into_device-log.new.pass c.args.self.journal.journal.history c.into_device-log.ensures.begins c.into_device-log.ensures.before c.into_device-log.ensures.pass (c.into_device-device.ensures.written t),
)
