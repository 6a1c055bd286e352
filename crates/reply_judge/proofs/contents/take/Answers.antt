use Rattle.std.proofs.Common.{None}
use Rattle.reply_judge.proofs.Keeping.{has_set}
use Rattle.reply_judge.proofs.contents.take.Goals as goal

pub returns : goal.returns
returns c = λ m k. has_set m c.args.pairs.now c.remove.new.self k c.args.key.now None c.remove.ensures.updates.0
