use Rattle.std.proofs.Common.{List, Bool, map, sym, ap, ◌∙◌}
use Rattle.std.specs.Prelude.{◌||◌}
use Rattle.std.specs.List.{list_any}
use Rattle.std.specs.Ordering.{nat_cmp}
use Rattle.std.specs.BTreeSet.{contains}
use Rattle.std.proofs.lemmas.Result.{on_ok_weaker}
use Rattle.range_lock.specs.Point.{PointLock}
use Rattle.range_lock.specs.Tables.{lock_at_point, bars_by}
use Rattle.range_lock.proofs.Holding.{any_both, or_regrouped}
use Rattle.range_lock.proofs.point_locks.PointLocks.add_holders.Goals as goal

pub returns : goal.returns
returns c =
    let short = c.self.inside.short.keys in
    let long = c.self.inside.long.keys in
    on_ok_weaker c.add_at_points-2.result (λ h tx.
    let bar = bars_by c.args.range.now c.args.mode tx in
    let any = λ (ps : List PointLock). list_any bar (map (lock_at_point c.args.held) ps) in
    let found = contains nat_cmp c.args.found.now tx in
    h tx ∙ ap (λ (b : Bool). b || any long) (c.in_ok-add_at_points.ensures tx)
    ∙ sym (or_regrouped found (any short) (any long))
    ∙ ap (λ (b : Bool). found || b) (sym (any_both c.args.held bar short long))
    ∙ ap (λ (ps : List PointLock). found || any ps) c.self.view_is) c.add_at_points-2.ensures
