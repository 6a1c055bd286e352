-- The search begins where no lock below can conflict, takes each turn of the list, and stops where none above can.
use Rattle.std.proofs.Common.{List, map, Some, sym, ap, subst, ◌∙◌}
use Rattle.std.proofs.lemmas.List.Kept.{IsStrictlySortedBy-filter}
use Rattle.store_model.specs.Range.{is_below}
use Rattle.std.specs.List.{filter}
use Rattle.std.specs.declared.ops.Bound.{Bound}
use Rattle.std.specs.declared.ops.Bound.TheVariants.{Unbounded}
use Rattle.std.specs.BTreeMap.Range.{range_contains}
use Rattle.range_lock.specs.Lock.{Lock}
use Rattle.range_lock.specs.Nearest.{nearest}
use Rattle.range_lock.specs.Point.{PointLock, point_cmp}
use Rattle.range_lock.specs.Tables.{lock_at_point}
use Rattle.std.specs.List.Sorted.{IsStrictlySortedBy}
use Rattle.range_lock.proofs.Conflicts.{stepped, ended, cut, sorted_after, nearest-from}
use Rattle.range_lock.proofs.search.first_in_range.Goals as goal

pub loop-lock-init : goal.loop-lock-init
loop-lock-init g c =
    let start = c.start_of-start.result in
    let from = ap (λ (b : Bound PointLock). filter (range_contains point_cmp b Unbounded) c.args.points.now.keys) c.as_ref.ensures in
    let is = c.into_iter-lock-iterator.ensures.into_iter_gives ∙ c.range-lock-items.ensures.between tt ∙ from in
    let asked : Lock = record { tx = c.args.tx; range = c.args.range.now; mode = c.args.mode } in
    record {
      same = ap (λ (ps : List PointLock). nearest asked (map (lock_at_point c.args.held) ps) c.args.best.now) is ∙ nearest-from c.args.held asked start c.start_of-start.ensures c.args.points.now.keys c.args.best.now;
      sorted = subst (IsStrictlySortedBy point_cmp) (sym is) (IsStrictlySortedBy-filter point_cmp _ c.args.points.now.keys c.range-lock-items.ensures.ordered);
    }

pub loop-lock-preserved : goal.loop-lock-preserved
loop-lock-preserved g c =
    let is = c.in-Some.ensures.steps in
    record {
      same = stepped c.args.held _ c.loop-lock.lock-iterator c.loop-lock.best _ c.loop-lock.invariant.same c.in-Some.lock.now c.next.new.self is c.first_of_point.new.best c.first_of_point.ensures;
      sorted = sorted_after c.in-Some.lock.now c.loop-lock.lock-iterator c.next.new.self is c.loop-lock.invariant.sorted;
    }

pub returns-in-None : goal.returns-in-None
returns-in-None g c = ended c.args.held _ c.loop-lock.lock-iterator c.loop-lock.best _ c.loop-lock.invariant.same c.in-None.ensures.steps.0

pub returns-then-not-is_above : goal.returns-then-not-is_above
returns-then-not-is_above g c =
    let above = (λ i. is_below (Some (sym c.text.ensures i)) (sym c.high.ensures i)) ∙ sym c.is_above.ensures ∙ c.if-not-is_above.true in
    cut c.args.held _ c.loop-lock.lock-iterator c.loop-lock.best _ c.loop-lock.invariant.same c.in-Some.lock.now c.next.new.self c.in-Some.ensures.steps above c.loop-lock.invariant.sorted
