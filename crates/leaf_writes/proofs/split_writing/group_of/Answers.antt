use Rattle.leaf_writes.proofs.Halves.{goes}
use Rattle.leaf_writes.proofs.split_writing.group_of.Goals as goal

pub upper_half-requires-clause-goes : goal.upper_half-requires-clause-goes
upper_half-requires-clause-goes g c = goes c.args.state.now c.requires.keeps c.args.change.now.key c.requires.leaf c.requires.purged c.args.change.now.new c.read.ensures.key c.read.ensures.new c.requires.full
