-- What a lock table holds, which is all that contracts see of it.
use Rattle.std.specs.Prelude.{◌≡◌, ℕ, ◌↔◌, ◌⊎◌, List, true}
use Rattle.std.specs.List.Sorted.{IsStrictlySortedBy}
use Rattle.std.specs.Ordering.{nat_cmp}
use Rattle.store_model.specs.Range.{Interval}
use Rattle.store_model.specs.declared.range.Mode.{Mode}
use Rattle.range_lock.specs.Lock.{Lock, IsAmong, bars, covers}
use Rattle.range_lock.specs.Nearest.{IsFirstInConflict}
use Rattle.range_lock.specs.Tables.{all_locks}
use Rattle.range_lock.specs.declared.range_locks.RangeLocks.{RangeLocks}
use Rattle.range_lock.specs.declared.refusal.LockRefused.{LockRefused}
use Rattle.range_lock.specs.declared.refusal.LockRefused.TheVariants.{Overlap, Memory}

abbrev pub held : RangeLocks → List Lock
held t = all_locks t.shared t.exclusive t.ranges

-- the lock is held
abbrev pub Holds : RangeLocks → Lock → Type 0
Holds t l = IsAmong l (held t)

-- the same locks are held
abbrev pub HoldsTheSame : RangeLocks → RangeLocks → Type 0
HoldsTheSame old new = (l : Lock) → Holds new l ↔ Holds old l

-- this lock is held too
abbrev pub Gains : RangeLocks → RangeLocks → Lock → Type 0
Gains old new asked = (l : Lock) → Holds new l ↔ ((l ≡ asked) ⊎ Holds old l)

-- the transaction holds none, and each other transaction what it held
abbrev pub Releases : RangeLocks → RangeLocks → ℕ → Type 0
Releases old new tx = (l : Lock) → Holds new l ↔ ((l.tx ≡ tx → ⊥) × Holds old l)

-- the refusal names the first of the locks in conflict, or memory ran out
abbrev pub NamesTheFirst : RangeLocks → Lock → LockRefused → Type 0
NamesTheFirst t asked (Overlap holder range) = IsFirstInConflict asked (held t) (record { holder = holder; range = range })
NamesTheFirst t asked Memory = Unit {0}

-- some lock of the transaction covers the range
abbrev pub IsCovered : RangeLocks → ℕ → Interval → Mode → Type 0
IsCovered t tx range mode = (l : Lock) × Holds t l × (l.tx ≡ tx) × (covers l range mode ≡ true)

-- the transactions with a lock that bars the range, by rising number
pub record AreHolders (t : RangeLocks) (range : Interval) (mode : Mode) (txs : List ℕ) : Type 0 where
  pub rising : IsStrictlySortedBy nat_cmp txs
  pub exact : (tx : ℕ) → IsAmong tx txs ↔ ((l : Lock) × Holds t l × (l.tx ≡ tx) × (bars range mode l ≡ true))
