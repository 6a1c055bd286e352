use Rattle.std.proofs.Common.{List, Bool, sym, ap, ◌∙◌}
use Rattle.std.specs.Prelude.{◌||◌, flat_map, nat_eq}
use Rattle.std.specs.List.{list_any}
use Rattle.std.specs.Ordering.{nat_cmp}
use Rattle.std.specs.BTreeSet.{contains}
use Rattle.range_lock.specs.Lock.{bars}
use Rattle.range_lock.specs.Tables.{lock_on_range, locks_on_ranges, bars_by}
use Rattle.range_lock.specs.declared.entry.RangeLock.{RangeLock}
use Rattle.range_lock.proofs.Holding.{added, passed_by, split_holder, number_added}
use Rattle.range_lock.proofs.holders.add_on_ranges.Goals as goal

pub loop-holder-preserved-in_ok-insert : goal.loop-holder-preserved-in_ok-insert
loop-holder-preserved-in_ok-insert c tx =
    let found = contains nat_cmp c.loop-holder.found tx in
    let any = λ (rs : List RangeLock). list_any (λ (r : RangeLock). bars c.args.range.now c.args.mode (lock_on_range 0 r)) rs in
    let rest = list_any (bars_by c.args.range.now c.args.mode tx) (flat_map locks_on_ranges c.next.new.self) in
    let split = split_holder c.args.range.now c.args.mode tx c.in-Some.holder.now c.in-Some.held.now c.loop-holder.holder-iterator c.next.new.self c.in-Some.ensures.steps in
    added found (contains nat_cmp c.insert.new.self tx) (nat_eq c.in-Some.holder.now tx) (any c.in-Some.held.now) rest _
    (number_added c.loop-holder.found c.insert.new.self c.in-Some.holder.now c.in_ok-insert.ensures.updates tx)
    (ap any (sym c.as_slice.ensures) ∙ sym c.any_bars.ensures ∙ c.if-any_bars.true)
    (ap (λ (b : Bool). found || b) (sym split) ∙ c.loop-holder.invariant tx)

pub loop-holder-preserved : goal.loop-holder-preserved
loop-holder-preserved c tx =
    let found = contains nat_cmp c.loop-holder.found tx in
    let any = λ (rs : List RangeLock). list_any (λ (r : RangeLock). bars c.args.range.now c.args.mode (lock_on_range 0 r)) rs in
    let rest = list_any (bars_by c.args.range.now c.args.mode tx) (flat_map locks_on_ranges c.next.new.self) in
    let split = split_holder c.args.range.now c.args.mode tx c.in-Some.holder.now c.in-Some.held.now c.loop-holder.holder-iterator c.next.new.self c.in-Some.ensures.steps in
    passed_by found (nat_eq c.in-Some.holder.now tx) (any c.in-Some.held.now) rest _ (ap any (sym c.as_slice.ensures) ∙ sym c.any_bars.ensures ∙ c.if-any_bars.false)
    (ap (λ (b : Bool). found || b) (sym split) ∙ c.loop-holder.invariant tx)
