-- The new lock is in no conflict with those that are held, and its key is listed.
use Rattle.std.proofs.lemmas.Result.{on_ok_weaker, on_err_weaker}
use Rattle.range_lock.specs.Point.{PointLock}
use Rattle.range_lock.specs.Tables.{all_locks}
use Rattle.range_lock.proofs.Changes.{at_most, shared_add, exclusive_add, shared_same, exclusive_same}
use Rattle.range_lock.proofs.First.{compatible_with}
use Rattle.range_lock.proofs.range_locks.RangeLocks.add_point.Goals as goal

pub invariant_of-self : goal.invariant_of-self
invariant_of-self c =
    let old = c.args.self.now in
    let n = c.put_point.new.points in
    let lock : PointLock = record { key = c.args.key.now; tx = c.args.tx } in
    let all_ok = on_ok_weaker c.put_point.result (shared_add old.shared old.exclusive n old.ranges lock c.args.mode c.in-Shared.is) c.put_point.ensures.ok in
    let all_err = on_err_weaker c.put_point.result (shared_same old.shared old.exclusive n old.ranges) c.put_point.ensures.err in
    record {
      compatible = compatible_with _ (all_locks old.shared old.exclusive old.ranges) (all_locks n old.exclusive old.ranges) old.compatible c.requires.free (at_most c.put_point.result _ _ _ all_ok all_err);
      listed_shared = c.put_point.ensures.listed;
      listed_exclusive = λ p h. c.put_point.ensures.stays p (old.listed_exclusive p h);
    }

pub returns-in-Shared-clause-ok : goal.returns-in-Shared-clause-ok
returns-in-Shared-clause-ok c =
    let old = c.args.self.now in
    on_ok_weaker c.put_point.result (shared_add old.shared old.exclusive c.put_point.new.points old.ranges (record { key = c.args.key.now; tx = c.args.tx }) c.args.mode c.in-Shared.is) c.put_point.ensures.ok

pub returns-in-Shared-clause-err : goal.returns-in-Shared-clause-err
returns-in-Shared-clause-err c =
    let old = c.args.self.now in
    on_err_weaker c.put_point.result (shared_same old.shared old.exclusive c.put_point.new.points old.ranges) c.put_point.ensures.err

pub invariant_of-self-in-Exclusive : goal.invariant_of-self-in-Exclusive
invariant_of-self-in-Exclusive c =
    let old = c.args.self.now in
    let n = c.put_point-in-Exclusive.new.points in
    let lock : PointLock = record { key = c.args.key.now; tx = c.args.tx } in
    let all_ok = on_ok_weaker c.put_point-in-Exclusive.result (exclusive_add old.shared old.exclusive n old.ranges lock c.args.mode c.in-Exclusive.is) c.put_point-in-Exclusive.ensures.ok in
    let all_err = on_err_weaker c.put_point-in-Exclusive.result (exclusive_same old.shared old.exclusive n old.ranges) c.put_point-in-Exclusive.ensures.err in
    record {
      compatible = compatible_with _ (all_locks old.shared old.exclusive old.ranges) (all_locks old.shared n old.ranges) old.compatible c.requires.free (at_most c.put_point-in-Exclusive.result _ _ _ all_ok all_err);
      listed_exclusive = c.put_point-in-Exclusive.ensures.listed;
      listed_shared = λ p h. c.put_point-in-Exclusive.ensures.stays p (old.listed_shared p h);
    }

pub returns-in-Exclusive-clause-ok : goal.returns-in-Exclusive-clause-ok
returns-in-Exclusive-clause-ok c =
    let old = c.args.self.now in
    on_ok_weaker c.put_point-in-Exclusive.result (exclusive_add old.shared old.exclusive c.put_point-in-Exclusive.new.points old.ranges (record { key = c.args.key.now; tx = c.args.tx }) c.args.mode c.in-Exclusive.is) c.put_point-in-Exclusive.ensures.ok

pub returns-in-Exclusive-clause-err : goal.returns-in-Exclusive-clause-err
returns-in-Exclusive-clause-err c =
    let old = c.args.self.now in
    on_err_weaker c.put_point-in-Exclusive.result (exclusive_same old.shared old.exclusive c.put_point-in-Exclusive.new.points old.ranges) c.put_point-in-Exclusive.ensures.err
