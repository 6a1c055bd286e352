-- Each point lock of the transaction was listed, so none is left; its range locks are gone with their list.
use Rattle.std.proofs.Common.{sym}
use Rattle.range_lock.specs.Tables.{all_locks}
use Rattle.range_lock.proofs.Changes.{AreGone, released, compatible_fewer, was_listed, never_listed, still_listed}
use Rattle.range_lock.proofs.range_locks.RangeLocks.release_all.Goals as goal
use Rattle.range_lock.proofs.range_locks.RangeLocks.release_all.Goals.{After-remove_listed-in-Some, In_default}

shared_gone : (c : After-remove_listed-in-Some) → AreGone c.args.self.now.shared c.remove_listed.new.points c.args.tx
shared_gone c = record {
  others = c.remove_listed.ensures.others;
  fewer = c.remove_listed.ensures.fewer;
  gone = λ p t has.
      was_listed c.args.self.now.keys c.args.tx c.in-Some.keys p (sym c.in-Some.ensures.value) t (c.args.self.now.listed_shared p (c.remove_listed.ensures.fewer p has))
      (c.remove_listed.ensures.gone p t has);
}

exclusive_gone : (c : After-remove_listed-in-Some) → AreGone c.args.self.now.exclusive c.remove_listed-in-Some.new.points c.args.tx
exclusive_gone c = record {
  others = c.remove_listed-in-Some.ensures.others;
  fewer = c.remove_listed-in-Some.ensures.fewer;
  gone = λ p t has.
      was_listed c.args.self.now.keys c.args.tx c.in-Some.keys p (sym c.in-Some.ensures.value) t (c.args.self.now.listed_exclusive p (c.remove_listed-in-Some.ensures.fewer p has))
      (c.remove_listed-in-Some.ensures.gone p t has);
}

pub invariant_of-self : goal.invariant_of-self
invariant_of-self c =
    let old = c.args.self.now in
    let shared = c.remove_listed.new.points in
    let exclusive = c.remove_listed-in-Some.new.points in
    let after = released c.args.tx old.shared shared old.exclusive exclusive old.ranges c.remove.new.self (shared_gone c) (exclusive_gone c) c.remove.ensures.entries c.remove.ensures.updates.1 in
    record {
      compatible = compatible_fewer (all_locks old.shared old.exclusive old.ranges) (all_locks shared exclusive c.remove.new.self) old.compatible (λ l g. ((after l).0 g).1);
      listed_shared = λ p h. still_listed old.keys c.remove-2.new.self c.args.tx p c.remove-2.ensures.updates.2 (λ t. (shared_gone c).gone p t h) (old.listed_shared p (c.remove_listed.ensures.fewer p h));
      listed_exclusive = λ p h. still_listed old.keys c.remove-2.new.self c.args.tx p c.remove-2.ensures.updates.2 (λ t. (exclusive_gone c).gone p t h) (old.listed_exclusive p (c.remove_listed-in-Some.ensures.fewer p h));
    }

shared_absent : (c : In_default) → AreGone c.args.self.now.shared c.args.self.now.shared c.args.tx
shared_absent c = record { others = λ p other h. h; fewer = λ p h. h; gone = λ p t has. never_listed c.args.self.now.keys c.args.tx p (sym c.in_default.ensures.value) t (c.args.self.now.listed_shared p has) }

exclusive_absent : (c : In_default) → AreGone c.args.self.now.exclusive c.args.self.now.exclusive c.args.tx
exclusive_absent c = record { others = λ p other h. h; fewer = λ p h. h; gone = λ p t has. never_listed c.args.self.now.keys c.args.tx p (sym c.in_default.ensures.value) t (c.args.self.now.listed_exclusive p has) }

pub invariant_of-self-in_default : goal.invariant_of-self-in_default
invariant_of-self-in_default c =
    let old = c.args.self.now in
    let after = released c.args.tx old.shared old.shared old.exclusive old.exclusive old.ranges c.remove.new.self (shared_absent c) (exclusive_absent c) c.remove.ensures.entries c.remove.ensures.updates.1 in
    record {
      compatible = compatible_fewer (all_locks old.shared old.exclusive old.ranges) (all_locks old.shared old.exclusive c.remove.new.self) old.compatible (λ l g. ((after l).0 g).1);
      listed_shared = λ p h. still_listed old.keys c.remove-2.new.self c.args.tx p c.remove-2.ensures.updates.2 (λ t. (shared_absent c).gone p t h) (old.listed_shared p h);
      listed_exclusive = λ p h. still_listed old.keys c.remove-2.new.self c.args.tx p c.remove-2.ensures.updates.2 (λ t. (exclusive_absent c).gone p t h) (old.listed_exclusive p h);
    }

pub returns-in-Some-clause-released : goal.returns-in-Some-clause-released
returns-in-Some-clause-released c =
    let old = c.args.self.now in
    let d = (goal.at.returns-in-Some-clause-released c).After-remove_listed-in-Some in
    released c.args.tx old.shared c.remove_listed.new.points old.exclusive c.remove_listed-in-Some.new.points old.ranges c.remove.new.self (shared_gone d) (exclusive_gone d) c.remove.ensures.entries c.remove.ensures.updates.1

pub returns-in_default-clause-released : goal.returns-in_default-clause-released
returns-in_default-clause-released c =
    let old = c.args.self.now in
    let d = (goal.at.returns-in_default-clause-released c).In_default in
    released c.args.tx old.shared old.shared old.exclusive old.exclusive old.ranges c.remove.new.self (shared_absent d) (exclusive_absent d) c.remove.ensures.entries c.remove.ensures.updates.1
