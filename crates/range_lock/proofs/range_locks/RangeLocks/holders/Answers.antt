use Rattle.std.proofs.Common.{◌≡◌, Bool, false, map, sym, ap, ◌∙◌}
use Rattle.std.specs.Prelude.{◌||◌, flat_map}
use Rattle.std.specs.List.{list_any}
use Rattle.std.specs.Ordering.{nat_cmp}
use Rattle.std.specs.BTreeMap.{is_at}
use Rattle.store_model.specs.declared.range.Mode.TheVariants.{Shared, Exclusive}
use Rattle.range_lock.specs.Held.{held}
use Rattle.range_lock.specs.Tables.{lock_at_point, locks_at_points, locks_on_ranges, bars_by}
use Rattle.range_lock.proofs.Holding.{any_append, holders_exactly}
use Rattle.range_lock.proofs.range_locks.RangeLocks.holders.Goals as goal

pub returns-clause-ok : goal.returns-clause-ok
returns-clause-ok c =
    let t = c.args.self.now in
    let txs = c.add_on_ranges.new.found.keys in (
      txs,
      record {
        rising = c.in_ok-append.ensures.ordered;
        exact = λ tx.
            let bar = bars_by c.args.range.now c.args.mode tx in
            let at_shared = map (lock_at_point Shared) t.shared in
            let at_exclusive = map (lock_at_point Exclusive) t.exclusive in
            let ranges = flat_map locks_on_ranges t.ranges.entries in
            let none : list_any (is_at (nat_cmp tx)) c.new-found.result.keys ≡ false = ap (list_any (is_at (nat_cmp tx))) c.new-found.ensures.empty in
            let shared = c.in_ok-add_holders.ensures tx ∙ ap (λ (b : Bool). b || list_any bar at_shared) none in
            let points = c.in_ok-add_holders-2.ensures tx ∙ ap (λ (b : Bool). b || list_any bar at_exclusive) shared ∙ sym (any_append bar at_shared at_exclusive) in
            let all = c.in_ok-add_on_ranges.ensures tx ∙ ap (λ (b : Bool). b || list_any bar ranges) points ∙ sym (any_append bar (locks_at_points t.shared t.exclusive) ranges) in
            holders_exactly (held t) c.args.range.now c.args.mode txs tx all;
      },
      c.in_ok-append.ensures.ok,
    )
