use Rattle.std.proofs.lemmas.List.{take_min, drop_min}
use Rattle.range_lock.proofs.release.cut.Goals as goal

pub returns-clause-front : goal.returns-clause-front
returns-clause-front c = rw (c.split_at.ensures.front, c.min.ensures) (take_min c.args.n c.args.bytes.now)

pub returns-clause-back : goal.returns-clause-back
returns-clause-back c = rw (c.split_at.ensures.back, c.min.ensures) (drop_min c.args.n c.args.bytes.now)
