-- Locks on single keys, as they stand in an ordered set.
use Rattle.std.specs.Prelude.{ℕ, ◌≤◌, length, List}
use Rattle.std.specs.declared.cmp.Ordering.{Ordering}
use Rattle.std.specs.Ordering.{nat_cmp, ordering_then}
use Rattle.std.specs.Cmp.Lexicographic.{slice_cmp}
use Rattle.range_lock.specs.Lock.{IsAmong}

-- the transaction tx holds the key
pub record PointLock : Type 0 where
  pub key : List ℕ
  pub tx : ℕ

-- by key, then by transaction
abbrev pub point_cmp : PointLock → PointLock → Ordering
point_cmp a b = ordering_then (slice_cmp nat_cmp a.key b.key) (nat_cmp a.tx b.tx)

-- a text of so many bytes
pub record HasLength (least most : ℕ) (text : List ℕ) : Type 0 where
  pub least_fits : least ≤ length text
  pub fits : length text ≤ most

-- a key has 1 to 64 bytes
abbrev pub IsKey : List ℕ → Type 0
IsKey = HasLength 1 64

-- the keys of all these locks have so many bytes
abbrev pub HaveLength : ℕ → ℕ → List PointLock → Type 0
HaveLength least most points = (p : PointLock) → IsAmong p points → HasLength least most p.key
