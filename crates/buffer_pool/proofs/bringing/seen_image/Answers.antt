use Rattle.std.proofs.Common.{◌∙◌}
use Rattle.page_ops.specs.Seeing.{is_none}
use Rattle.page_ops.proofs.Gaining.{goes_met, upheld_then}
use Rattle.buffer_pool.proofs.Entering.{looks}
use Rattle.buffer_pool.proofs.Serving.{agrees_of, given_later}
use Rattle.buffer_pool.proofs.bringing.seen_image.Goals as goal

pub returns-clause-image : goal.returns-clause-image
returns-clause-image g c = given_later g.N.Life.opens c.read_image-bytes.new.pass c.see.new.pass c.args.page c.read_image-bytes.result c.see.ensures.seen.now.begins c.see.ensures.seen.durable c.read_image-bytes.ensures.image

pub returns-clause-agrees : goal.returns-clause-agrees
returns-clause-agrees g c = agrees_of _ _ _ (record { page = c.args.page; lsn = c.args.lsn }) (c.see.ensures.same ∙ c.requires.right) c.see.ensures.seen.now.rights

pub returns-clause-entered : goal.returns-clause-entered
returns-clause-entered g c =
    upheld_then is_none _ _ _ _ _ _ (goes_met is_none _ _ _ _ c.read_image-bytes.ensures.seen.0 c.read_image-bytes.ensures.seen.1) (looks _ _ _ is_none _ _ _ _ _ _ c.see.ensures.seen)
