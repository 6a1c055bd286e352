use Rattle.std.proofs.Common.{false, refl, subst}
use Rattle.store_model.proofs.Bools.{not_both}
use Rattle.range_lock.specs.Point.{PointLock}
use Rattle.range_lock.specs.Among.{Removes}
use Rattle.range_lock.proofs.Sets.{removed, removed_none, no_room}
use Rattle.range_lock.proofs.point_set.remove_point.Goals as goal

pub returns-in-Some : goal.returns-in-Some
returns-in-Some g c = subst (Removes c.args.points.now.keys c.remove.new.self.keys) c.in-Some.ensures.value (removed c.args.points.now c.remove.new.self c.in-Some.point c.remove.ensures.updates)

pub returns-in_default : goal.returns-in_default
returns-in_default g c =
    let k : PointLock = record { key = c.args.text.now; tx = c.args.tx } in
    removed_none c.args.points.now.keys k (λ h. no_room g.row.N k c.args.points.now.keys c.requires.keys c.requires.room h (λ fits. not_both false (c.in_default.ensures.exact.1 fits) refl))
