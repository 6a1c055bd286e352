use Rattle.std.proofs.Common.{inl, inr}
use Rattle.std.specs.Prelude.{flat_map}
use Rattle.store_model.proofs.Bools.{not_both}
use Rattle.range_lock.specs.Tables.{locks_at_points, locks_on_ranges}
use Rattle.range_lock.proofs.Changes.{covered_left, covered_right, covered_either}
use Rattle.range_lock.proofs.range_locks.RangeLocks.covers.Goals as goal

pub returns-then-covers_at_point : goal.returns-then-covers_at_point
returns-then-covers_at_point c =
    let t = c.args.self.now in (
      λ e. covered_left (locks_at_points t.shared t.exclusive) (flat_map locks_on_ranges t.ranges.entries) c.args.tx c.args.range.now c.args.mode (c.covers_at_point.ensures.0 c.if-covers_at_point.true),
      λ g. c.if-covers_at_point.true,
    )

pub returns-else-covers_at_point : goal.returns-else-covers_at_point
returns-else-covers_at_point c =
    let t = c.args.self.now in (
      λ e. covered_right (locks_at_points t.shared t.exclusive) (flat_map locks_on_ranges t.ranges.entries) c.args.tx c.args.range.now c.args.mode (c.covers_on_range.ensures.0 e),
      λ g. elim (covered_either (locks_at_points t.shared t.exclusive) (flat_map locks_on_ranges t.ranges.entries) c.args.tx c.args.range.now c.args.mode g) [
        | inl p ↦ absurd (not_both c.covers_at_point.result (c.covers_at_point.ensures.1 p) c.if-covers_at_point.false)
        | inr r ↦ c.covers_on_range.ensures.1 r
      ],
    )
