use Rattle.page_repair.proofs.Sharing.{none_newest}
use Rattle.page_repair.proofs.own_images.OwnImagesImages.replace.Goals as goal

pub returns-clause-empty : goal.returns-clause-empty
returns-clause-empty g c = none_newest g.D.PageDevice.tells g.D.PageDevice.told g.D.PageDevice.newest c.replace.new.self c.replace.result (g.met.D.PageDevice.newest_told c.replace.new.self) c.replace.ensures.empty
