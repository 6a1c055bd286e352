use Rattle.std.proofs.Common.{arith}
use Rattle.page_repair.proofs.Staying.{all_later}
use Rattle.page_repair.proofs.own_images.OwnImages.into_device.Goals as goal

pub returns-clause-written : goal.returns-clause-written
returns-clause-written g c = λ t. all_later g.N.Life.opens g.D.PageDevice.told c.self.inside.pass c.meet.new.self c.self.inside.device c.meet.ensures.other (let d = c.meet.ensures.durable in omega (arith, d)) (c.self.invariant.1 t)
