use Rattle.std.proofs.Common.{arith}
use Rattle.buffer_pool.proofs.Changes.{kept_new}
use Rattle.buffer_pool.proofs.frames.Frames.new.Goals as goal

pub invariant_of-result : goal.invariant_of-result
invariant_of-result g c = kept_new _ _ (let n = c.loop.invariant.0 in let e = c.limit-limit.ensures in let p = c.loop-test.false in let q = c.loop.auto.counter-end in omega (arith, n, e, p, q)) c.loop.invariant.1 c.requires.rights
