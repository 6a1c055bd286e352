use Rattle.std.proofs.Common.{ap}
use Rattle.line_reader.specs.Lines.{Reader}
use Rattle.line_reader.proofs.Reading.{skipped}
use Rattle.line_reader.proofs.input.Input.skip.Goals as goal

pub returns-clause-pending : goal.returns-clause-pending
returns-clause-pending c = skipped c.args.self.now c.self.inside.piece.items c.self.inside.from c.self.inside.upto c.args.count (ap (λ (r : Reader). r.pending) c.self.view_is) c.requires
