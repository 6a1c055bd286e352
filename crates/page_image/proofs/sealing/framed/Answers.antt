use Rattle.std.proofs.Common.{refl, ap, ◌∙◌, length}
use Rattle.sha2.proofs.Facts256.{length-sha256}
use Rattle.page_image.proofs.Framing.{sealed_is}
use Rattle.page_image.proofs.sealing.framed.Goals as goal

pub returns : goal.returns
returns c = sealed_is c.args.body.now c.digest_of-digest.result c.put.new.bytes c.put-2.new.bytes 4096 refl c.put.ensures c.digest_of-digest.ensures c.put-2.ensures (ap length c.digest_of-digest.ensures ∙ length-sha256 _)
