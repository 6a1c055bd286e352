use Rattle.std.proofs.Common.{ℕ, List, Bool, true, false, Some, map, sym, ap, subst, ◌∙◌}
use Rattle.std.specs.Prelude.{◌||◌, nat_eq}
use Rattle.std.specs.List.{list_any}
use Rattle.std.specs.List.Sorted.{IsStrictlySortedBy}
use Rattle.std.specs.Ordering.{nat_cmp}
use Rattle.std.specs.BTreeSet.{contains, Updates}
use Rattle.std.proofs.lemmas.List.Kept.{IsStrictlySortedBy-filter}
use Rattle.store_model.specs.Range.{is_below}
use Rattle.range_lock.specs.Lock.{bars}
use Rattle.range_lock.specs.Point.{PointLock, point_cmp}
use Rattle.range_lock.specs.Tables.{lock_at_point, bars_by}
use Rattle.range_lock.proofs.Conflicts.{sorted_after}
use Rattle.range_lock.proofs.Holding.{added, passed_by, number_added, any_from, any_above, or_nothing, told_bars}
use Rattle.range_lock.proofs.holders.add_at_points.Goals as goal

pub loop-lock-init : goal.loop-lock-init
loop-lock-init g c =
    let is = c.into_iter-lock-iterator.ensures.into_iter_gives ∙ c.range-lock-items.ensures.between tt in
    record {
      same = λ tx. ap (λ (b : Bool). contains nat_cmp c.args.found.now tx || b)
          (ap (λ (ps : List PointLock). list_any (bars_by c.args.range.now c.args.mode tx) (map (lock_at_point c.args.held) ps)) is ∙ any_from c.args.held c.args.range.now c.args.mode tx c.start_of.result c.start_of.ensures c.args.points.now.keys);
      sorted = subst (IsStrictlySortedBy point_cmp) (sym is) (IsStrictlySortedBy-filter point_cmp _ c.args.points.now.keys c.range-lock-items.ensures.ordered);
    }

pub loop-lock-preserved-in_ok-insert : goal.loop-lock-preserved-in_ok-insert
loop-lock-preserved-in_ok-insert g c =
    let is = c.in-Some.ensures.steps in
    let told = told_bars c.args.range.now c.args.mode c.args.held c.in-Some.lock.now c.place.result true c.keeps_off.result c.place.ensures c.keeps_off.ensures c.if-keeps_off.true in
    record {
      same = λ tx.
          added (contains nat_cmp c.loop-lock.found tx) (contains nat_cmp c.insert.new.self tx) (nat_eq c.in-Some.lock.now.tx tx) (bars c.args.range.now c.args.mode (lock_at_point c.args.held c.in-Some.lock.now))
          (list_any (bars_by c.args.range.now c.args.mode tx) (map (lock_at_point c.args.held) c.next.new.self)) _ (number_added c.loop-lock.found c.insert.new.self c.in-Some.lock.now.tx (subst (λ (t : ℕ). Updates nat_cmp c.loop-lock.found c.insert.new.self t true) c.tx.ensures c.in_ok-insert.ensures.updates) tx) told
          (ap (λ (ps : List PointLock). contains nat_cmp c.loop-lock.found tx || list_any (bars_by c.args.range.now c.args.mode tx) (map (lock_at_point c.args.held) ps)) (sym is) ∙ c.loop-lock.invariant.same tx);
      sorted = sorted_after c.in-Some.lock.now c.loop-lock.lock-iterator c.next.new.self is c.loop-lock.invariant.sorted;
    }

pub loop-lock-preserved : goal.loop-lock-preserved
loop-lock-preserved g c =
    let is = c.in-Some.ensures.steps in
    let told = told_bars c.args.range.now c.args.mode c.args.held c.in-Some.lock.now c.place.result false c.keeps_off.result c.place.ensures c.keeps_off.ensures c.if-keeps_off.false in
    record {
      same = λ tx.
          passed_by (contains nat_cmp c.loop-lock.found tx) (nat_eq c.in-Some.lock.now.tx tx) (bars c.args.range.now c.args.mode (lock_at_point c.args.held c.in-Some.lock.now))
          (list_any (bars_by c.args.range.now c.args.mode tx) (map (lock_at_point c.args.held) c.next.new.self)) _ told
          (ap (λ (ps : List PointLock). contains nat_cmp c.loop-lock.found tx || list_any (bars_by c.args.range.now c.args.mode tx) (map (lock_at_point c.args.held) ps)) (sym is) ∙ c.loop-lock.invariant.same tx);
      sorted = sorted_after c.in-Some.lock.now c.loop-lock.lock-iterator c.next.new.self is c.loop-lock.invariant.sorted;
    }

pub returns-then-not-is_above : goal.returns-then-not-is_above
returns-then-not-is_above g c tx =
    let above = (λ i. is_below (Some (sym c.text.ensures i)) (sym c.high.ensures i)) ∙ sym c.is_above.ensures ∙ c.if-not-is_above.true in
    or_nothing _ _ _ (any_above c.args.held c.args.range.now c.args.mode tx c.in-Some.lock.now c.next.new.self c.loop-lock.lock-iterator c.in-Some.ensures.steps above c.loop-lock.invariant.sorted) (c.loop-lock.invariant.same tx)
