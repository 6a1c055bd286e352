use Rattle.page_repair.proofs.Sharing.{write_kept}
use Rattle.page_repair.proofs.own_images.OwnImagesImages.write.Goals as goal

pub invariant_of-self : goal.invariant_of-self
invariant_of-self g c = write_kept _ _ g.D.PageDevice.told g.D.PageDevice.newest _ _ _ _ c.self.inside.device c.write.new.self _ _ c.self.invariant.0 c.self.invariant.1 c.copy-known.ensures.copy c.requires.written c.meet.ensures.this c.meet.ensures.other c.meet.ensures.durable c.write.ensures.adds
