-- The new lock is in no conflict with those that are held.
use Rattle.std.proofs.Common.{ℕ, List, ap, subst, ◌++◌}
use Rattle.std.specs.Prelude.{OnOk, flat_map}
use Rattle.std.proofs.lemmas.Result.{on_ok_weaker, on_err_weaker}
use Rattle.store_model.specs.Range.{Interval}
use Rattle.range_lock.specs.Lock.{Lock}
use Rattle.range_lock.specs.Tables.{all_locks, locks_at_points, locks_on_ranges, lock_on_range, on_range}
use Rattle.range_lock.specs.declared.entry.RangeLock.{RangeLock}
use Rattle.range_lock.proofs.Members.{among_right}
use Rattle.range_lock.specs.Among.{Adds}
use Rattle.range_lock.proofs.Changes.{range_add, adds_nothing, at_most, has_same}
use Rattle.range_lock.proofs.First.{compatible_with}
use Rattle.range_lock.proofs.range_locks.RangeLocks.add_range.Goals as goal

pub invariant_of-self : goal.invariant_of-self
invariant_of-self c =
    let old = c.args.self.now in
    let asked : Lock = record { tx = c.args.tx; range = c.args.range.now; mode = c.args.mode } in
    let rn = c.put_range.new.ranges.entries in
    let ok : OnOk c.put_range.result (Adds (flat_map locks_on_ranges old.ranges.entries) (flat_map locks_on_ranges rn) asked) =
    subst (λ (r : Interval). OnOk c.put_range.result (Adds (flat_map locks_on_ranges old.ranges.entries) (flat_map locks_on_ranges rn) (lock_on_range c.args.tx (on_range r c.args.mode)))) c.in_ok-range.ensures c.put_range.ensures.ok in
    let all_ok = on_ok_weaker c.put_range.result (range_add old.shared old.exclusive old.ranges.entries rn asked) ok in
    let all_err = on_err_weaker c.put_range.result (λ same. has_same (all_locks old.shared old.exclusive old.ranges) _ (ap (λ (es : List (ℕ × List RangeLock)). locks_at_points old.shared old.exclusive ++ flat_map locks_on_ranges es) same)) c.put_range.ensures.err in
    record {
      compatible = compatible_with asked (all_locks old.shared old.exclusive old.ranges) (all_locks old.shared old.exclusive c.put_range.new.ranges) old.compatible c.requires (at_most c.put_range.result _ _ asked all_ok all_err);
      listed_shared = old.listed_shared;
      listed_exclusive = old.listed_exclusive;
    }

pub returns-in_ok-put_range-clause-ok : goal.returns-in_ok-put_range-clause-ok
returns-in_ok-put_range-clause-ok c =
    let old = c.args.self.now in
    let rn = c.put_range.new.ranges.entries in
    let ok = subst (λ (r : Interval). Adds (flat_map locks_on_ranges old.ranges.entries) (flat_map locks_on_ranges rn) (lock_on_range c.args.tx (on_range r c.args.mode))) c.in_ok-range.ensures c.in_ok-put_range.ensures.ok in
    range_add old.shared old.exclusive old.ranges.entries rn (record { tx = c.args.tx; range = c.args.range.now; mode = c.args.mode }) ok

pub returns-else-not-holds_range-clause-ok : goal.returns-else-not-holds_range-clause-ok
returns-else-not-holds_range-clause-ok c =
    let old = c.args.self.now in
    adds_nothing (all_locks old.shared old.exclusive old.ranges) _
    (among_right _ (locks_at_points old.shared old.exclusive) (flat_map locks_on_ranges old.ranges.entries) (c.holds_range.ensures c.if-not-holds_range.false))
