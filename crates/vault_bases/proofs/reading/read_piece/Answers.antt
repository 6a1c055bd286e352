use Rattle.vault_bases.proofs.Pieces.{piece_of}
use Rattle.vault_bases.proofs.reading.read_piece.Goals as goal

pub returns-in-Ok-clause-piece : goal.returns-in-Ok-clause-piece
returns-in-Ok-clause-piece g c = piece_of g.N.Life.opens c.get.new.pass.log c.args.name c.args.from c.in-Ok.count c.args.buf.now c.get.new.buf c.in-Ok.ensures.bytes
