use Rattle.std.proofs.Common.{◌≡◌, false, take}
use Rattle.std.specs.Prelude.{◌≢◌}
use Rattle.std.specs.List.{list_any}
use Rattle.std.specs.Ordering.{nat_cmp, eq_by_cmp}
use Rattle.std.specs.Cmp.Lexicographic.{slice_cmp}
use Rattle.range_lock.specs.Cut.{cut_into, behind}
use Rattle.range_lock.specs.Lock.{IsAmong}
use Rattle.range_lock.specs.Point.{PointLock}
use Rattle.range_lock.proofs.release.remove_cut.Given as goal

abbrev pub invariant-loop-n : goal.invariant-loop-n
invariant-loop-n l = record {
  others : (p : PointLock) → p.tx ≢ l.tx → IsAmong p l.fn.points → IsAmong p l.points;
  fewer : (p : PointLock) → IsAmong p l.points → IsAmong p l.fn.points;
  gone : (p : PointLock) → p.tx ≡ l.tx → IsAmong p l.points → list_any (eq_by_cmp (slice_cmp nat_cmp) p.key) (cut_into (take l.n-index l.lengths) l.texts) ≡ false;
  left : l.rest ≡ behind (take l.n-index l.lengths) l.texts;
}
