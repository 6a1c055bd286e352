use Rattle.std.proofs.Common.{◌≡◌, ℕ, List, sym, ap, subst, ◌∙◌}
use Rattle.std.specs.Prelude.{◌↔◌, ◌⊎◌, flat_map}
use Rattle.std.specs.Ordering.{nat_cmp}
use Rattle.std.specs.BTreeMap.{BTreeMap, is_at, insert_entry}
use Rattle.std.specs.Map.{set_value}
use Rattle.std.proofs.lemmas.Map.Steps.{set_value_same}
use Rattle.range_lock.specs.Lock.{IsAmong}
use Rattle.range_lock.specs.Tables.{locks_on_ranges, lock_on_range}
use Rattle.range_lock.specs.declared.entry.RangeLock.{RangeLock}
use Rattle.range_lock.proofs.Members.{among_longer}
use Rattle.range_lock.proofs.Changes.{any_err, among_first}
use Rattle.range_lock.proofs.wider.put_range.Goals as goal

pub returns-in_err-push-clause-err : goal.returns-in_err-push-clause-err
returns-in_err-push-clause-err c =
    let written = (c.get_mut.follows.holds c.push.new.self).0 in
    any_err c.from_residual.result
    (written ∙ ap (set_value (is_at (nat_cmp c.args.tx)) c.args.ranges.now.entries) c.in_err-push.ensures.err ∙ set_value_same (is_at (nat_cmp c.args.tx)) c.args.ranges.now.entries c.in-Some.held.now (sym c.in-Some.ensures.value))

pub returns-in-Some-clause-ok : goal.returns-in-Some-clause-ok
returns-in-Some-clause-ok c l =
    let written = (c.get_mut.follows.holds c.push.new.self).0 in
    subst (λ (es : List (ℕ × List RangeLock)). IsAmong l (flat_map locks_on_ranges es) ↔ ((l ≡ lock_on_range c.args.tx c.args.lock) ⊎ IsAmong l (flat_map locks_on_ranges c.args.ranges.now.entries))) (sym written)
    (among_longer c.args.tx c.args.lock c.in-Some.held.now c.push.new.self l c.args.ranges.now.entries c.in_ok-push.ensures.ok (sym c.in-Some.ensures.value))

pub returns-clause-ok : goal.returns-clause-ok
returns-clause-ok c l =
    let entries = c.in_ok-insert.ensures.entries ∙ ap (λ (m : BTreeMap ℕ (List RangeLock)). insert_entry nat_cmp m.entries c.args.tx c.push-2.new.self) c.get_mut.follows.holds-at-none in
    subst (λ (es : List (ℕ × List RangeLock)). IsAmong l (flat_map locks_on_ranges es) ↔ ((l ≡ lock_on_range c.args.tx c.args.lock) ⊎ IsAmong l (flat_map locks_on_ranges c.args.ranges.now.entries))) (sym entries)
    (among_first c.args.tx c.args.lock c.new-held.result c.push-2.new.self l c.args.ranges.now.entries c.in_ok-push-2.ensures.ok c.new-held.ensures (sym c.in_default.ensures.value))
