use Rattle.std.proofs.Common.{◌≡◌, false, subst}
use Rattle.std.specs.Prelude.{◌↔◌}
use Rattle.range_lock.specs.Lock.{IsAmong}
use Rattle.range_lock.specs.Point.{PointLock}
use Rattle.range_lock.specs.Among.{Adds}
use Rattle.range_lock.proofs.Sets.{inserted, told_new}
use Rattle.range_lock.proofs.point_set.insert_point.Goals as goal

pub returns-clause-ok : goal.returns-clause-ok
returns-clause-ok g c =
    subst (Adds c.args.points.now.keys c.insert.new.self.keys) c.in-Some.ensures.value (inserted c.args.points.now c.insert.new.self c.in-Some.point c.in_ok-insert-in-Some.ensures.updates)

pub returns-clause-told : goal.returns-clause-told
returns-clause-told g c =
    subst (λ (k : PointLock). (c.in_ok-insert-in-Some.field-0 ≡ false) ↔ IsAmong k c.args.points.now.keys) c.in-Some.ensures.value
    (told_new c.args.points.now c.in-Some.point c.in_ok-insert-in-Some.field-0 c.in_ok-insert-in-Some.ensures.added)
