-- The lock leaves the set of its length, and it isn't in the other one.
use Rattle.std.proofs.Common.{List, ◌++◌, subst, arith}
use Rattle.range_lock.specs.Point.{PointLock}
use Rattle.range_lock.specs.Among.{Removes}
use Rattle.range_lock.proofs.Changes.{removes_left, removes_right}
use Rattle.range_lock.proofs.Sets.{lock_of, removes_fitting, not_longer, not_shorter, longer_keys}
use Rattle.range_lock.proofs.point_locks.PointLocks.remove.Goals as goal

pub remove_point-requires-else-text-le-SHORT_BYTES : goal.remove_point-requires-else-text-le-SHORT_BYTES
remove_point-requires-else-text-le-SHORT_BYTES c = (omega arith, (longer_keys c.self.inside.long.keys c.self.invariant.1, omega arith))

pub invariant_of-self : goal.invariant_of-self
invariant_of-self c = (
  removes_fitting 1 24 c.self.inside.short.keys c.remove_point.new.points.keys (lock_of c.args.text.now c.args.tx) c.remove_point.ensures c.self.invariant.0,
  c.self.invariant.1,
)

pub invariant_of-self-else-text-le-SHORT_BYTES : goal.invariant_of-self-else-text-le-SHORT_BYTES
invariant_of-self-else-text-le-SHORT_BYTES c = (
  c.self.invariant.0,
  removes_fitting 25 64 c.self.inside.long.keys c.remove_point-else-text-le-SHORT_BYTES.new.points.keys (lock_of c.args.text.now c.args.tx) c.remove_point-else-text-le-SHORT_BYTES.ensures c.self.invariant.1,
)

pub returns-then-text-le-SHORT_BYTES : goal.returns-then-text-le-SHORT_BYTES
returns-then-text-le-SHORT_BYTES c =
    let short = c.self.inside.short.keys in
    let long = c.self.inside.long.keys in
    let new = c.remove_point.new.points.keys in
    let k = lock_of c.args.text.now c.args.tx in
    subst (λ (old : List PointLock). Removes old (new ++ long) k) c.self.view_is
    (removes_left short new long k c.remove_point.ensures (λ m. not_longer k long c.self.invariant.1 c.if-text-le-SHORT_BYTES.true m))

pub returns-else-text-le-SHORT_BYTES : goal.returns-else-text-le-SHORT_BYTES
returns-else-text-le-SHORT_BYTES c =
    let short = c.self.inside.short.keys in
    let long = c.self.inside.long.keys in
    let new = c.remove_point-else-text-le-SHORT_BYTES.new.points.keys in
    let k = lock_of c.args.text.now c.args.tx in
    subst (λ (old : List PointLock). Removes old (short ++ new) k) c.self.view_is
    (removes_right long new short k c.remove_point-else-text-le-SHORT_BYTES.ensures (λ m. not_shorter k short c.self.invariant.0 c.if-text-le-SHORT_BYTES.false m))
