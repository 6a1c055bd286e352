-- The tables behind the lock table, and the locks that they stand for.
use Rattle.std.specs.Prelude.{◌≡◌, ℕ, List, [], ◌++◌, map, flat_map, Bool, true, false, Option, Some, unwrap_or, nat_eq, ◌&&◌}
use Rattle.std.specs.List.{list_any}
use Rattle.std.specs.Ordering.{nat_cmp, eq_by_cmp}
use Rattle.std.specs.Cmp.Lexicographic.{slice_cmp}
use Rattle.std.specs.BTreeMap as tree
use Rattle.std.specs.BTreeMap.{BTreeMap}
use Rattle.std.specs.BTreeMap.Range.{is_from_start}
use Rattle.std.specs.declared.ops.Bound.{Bound}
use Rattle.store_model.specs.Range.{Interval, point, is_below}
use Rattle.store_model.specs.declared.range.Mode.{Mode}
use Rattle.store_model.specs.declared.range.Mode.TheVariants.{Shared, Exclusive}
use Rattle.range_lock.specs.Lock.{Lock, IsAmong, bars, covers}
use Rattle.range_lock.specs.Point.{PointLock, point_cmp}
use Rattle.range_lock.specs.declared.entry.RangeLock.{RangeLock}

-- held in this mode
abbrev pub lock_at_point : Mode → PointLock → Lock
lock_at_point mode p = record { tx = p.tx; range = point p.key; mode = mode }

abbrev pub locks_at_points : List PointLock → List PointLock → List Lock
locks_at_points shared exclusive = map (lock_at_point Shared) shared ++ map (lock_at_point Exclusive) exclusive

abbrev pub lock_on_range : ℕ → RangeLock → Lock
lock_on_range tx r = record { tx = tx; range = r.range; mode = r.mode }

abbrev pub locks_on_ranges : ℕ × List RangeLock → List Lock
locks_on_ranges e = map (lock_on_range e.0) e.1

-- all that is held
abbrev pub all_locks : List PointLock → List PointLock → BTreeMap ℕ (List RangeLock) → List Lock
all_locks shared exclusive ranges = locks_at_points shared exclusive ++ flat_map locks_on_ranges ranges.entries

-- each transaction's point locks can be found by the keys that are kept for it
abbrev pub is_listed : BTreeMap ℕ (List (List ℕ)) → PointLock → Bool
is_listed keys p = list_any (eq_by_cmp (slice_cmp nat_cmp) p.key) (unwrap_or (tree.get nat_cmp keys p.tx) [])

abbrev pub AreListed : List PointLock → BTreeMap ℕ (List (List ℕ)) → Type 0
AreListed points keys = (p : PointLock) → IsAmong p points → is_listed keys p ≡ true

-- a search from here on passes over locks on keys below the bound alone
abbrev pub StartsBelow : Bound PointLock → Option (List ℕ) → Type 0
StartsBelow start low = (p : PointLock) → is_from_start point_cmp start p ≡ false → is_below (Some p.key) low ≡ true

abbrev pub on_range : Interval → Mode → RangeLock
on_range range mode = record { range = range; mode = mode }

-- some lock on a single key of the transaction covers the range
abbrev pub IsCoveredAtPoint : List PointLock → List PointLock → ℕ → Interval → Mode → Type 0
IsCoveredAtPoint shared exclusive tx range mode = (l : Lock) × IsAmong l (locks_at_points shared exclusive) × (l.tx ≡ tx) × (covers l range mode ≡ true)

-- some lock on a wider range of the transaction does
abbrev pub IsCoveredOnRange : BTreeMap ℕ (List RangeLock) → ℕ → Interval → Mode → Type 0
IsCoveredOnRange ranges tx range mode = (l : Lock) × IsAmong l (flat_map locks_on_ranges ranges.entries) × (l.tx ≡ tx) × (covers l range mode ≡ true)

-- one of these locks of a transaction does
abbrev pub IsCoveredByOne : List RangeLock → Interval → Mode → Type 0
IsCoveredByOne held range mode = (r : RangeLock) × IsAmong r held × (covers (lock_on_range 0 r) range mode ≡ true)

-- the lock is this transaction's and bars the range
abbrev pub bars_by : Interval → Mode → ℕ → Lock → Bool
bars_by range mode tx l = nat_eq l.tx tx && bars range mode l
