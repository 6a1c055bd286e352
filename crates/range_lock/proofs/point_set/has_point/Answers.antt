use Rattle.std.proofs.Common.{◌∙◌, false, refl, sym, subst}
use Rattle.std.specs.Prelude.{◌↔◌, IsTrue}
use Rattle.range_lock.specs.Lock.{IsAmong}
use Rattle.store_model.proofs.Bools.{not_both}
use Rattle.range_lock.specs.Point.{PointLock}
use Rattle.range_lock.proofs.Members.{point_among, among_point}
use Rattle.range_lock.proofs.Sets.{no_room}
use Rattle.range_lock.proofs.point_set.has_point.Goals as goal

pub returns-in-Some : goal.returns-in-Some
returns-in-Some g c =
    let keys = c.args.points.now.keys in
    subst (λ (k : PointLock). IsTrue c.contains.result ↔ IsAmong k keys) c.in-Some.ensures.value (
      λ e. point_among c.in-Some.point keys (sym c.contains.ensures ∙ e),
      λ h. c.contains.ensures ∙ among_point c.in-Some.point keys h,
    )

pub returns-in-None : goal.returns-in-None
returns-in-None g c = (λ e. absurd cc, λ h. absurd (no_room g.row.N (record { key = c.args.text.now; tx = c.args.tx }) c.args.points.now.keys c.requires.keys c.requires.room h (λ fits. not_both false (c.in-None.ensures.exact.1 fits) refl)))
