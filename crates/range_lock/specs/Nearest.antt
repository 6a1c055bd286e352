-- The lock that is named where several conflict.
use Rattle.std.specs.Prelude.{◌≡◌, List, [], ◌∷◌, true, false, Option, Some, None, if◌then◌else◌}
use Rattle.std.specs.Ordering.{is_lt, is_gt}
use Rattle.store_model.specs.declared.range.Mode.{Mode}
use Rattle.range_lock.specs.Lock.{Lock, IsAmong, conflict}
use Rattle.range_lock.specs.Order.{rival_cmp}
use Rattle.range_lock.specs.declared.rival.Rival.{Rival}

abbrev pub lock_of : Rival → Mode → Lock
lock_of r mode = record { tx = r.holder; range = r.range; mode = mode }

abbrev pub rival_of : Lock → Rival
rival_of l = record { holder = l.tx; range = l.range }

-- the first of the locks in conflict with this one: none stands before it in the order
pub record IsFirstInConflict (asked : Lock) (locks : List Lock) (r : Rival) : Type 0 where
  pub mode : Mode
  pub held : IsAmong (lock_of r mode) locks
  pub conflicts : conflict asked (lock_of r mode) ≡ true
  pub first : (l : Lock) → IsAmong l locks → conflict asked l ≡ true → is_gt (rival_cmp r (rival_of l)) ≡ false

-- ---- as it is found, one lock after the other

abbrev pub nearer : Option Rival → Rival → Option Rival
nearer None r = Some r
nearer (Some best) r = if is_lt (rival_cmp r best) then Some r else Some best

abbrev pub step : Lock → Option Rival → Lock → Option Rival
step asked best l = if conflict asked l then nearer best (rival_of l) else best

unfoldable pub nearest : Lock → List Lock → Option Rival → Option Rival
nearest asked [] best = best
nearest asked (l ∷ ls) best = nearest asked ls (step asked best l)
