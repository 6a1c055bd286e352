use Rattle.page_repair.proofs.Sharing.{read_image}
use Rattle.page_repair.proofs.own_images.OwnImagesImages.read.Goals as goal

pub returns-clause-image : goal.returns-clause-image
returns-clause-image g c = read_image _ _ g.D.PageDevice.told _ _ c.args.pass.now _ c.self.inside.device _ _ c.read.result c.self.invariant.0 c.self.invariant.1 c.copy-written.ensures.copy c.meet.ensures.other c.meet.ensures.durable c.read.ensures.image
