-- What a request locks, and for which reasons it may be refused beside those of a page that is brought.
use Rattle.store_model.specs.Range.{Interval, point}
use Rattle.store_model.specs.declared.fault.Fault.{Fault}
use Rattle.store_model.specs.declared.fault.Fault.TheVariants as faults
use Rattle.store_model.specs.declared.range.Mode.{Mode}
use Rattle.store_model.specs.declared.range.Mode.TheVariants.{Shared, Exclusive}
use Rattle.store_model.specs.declared.request.Request.{Request}
use Rattle.store_model.specs.declared.request.Request.TheVariants as requests
use Rattle.wal_record.specs.Legal.{held}
use Rattle.wal_record.specs.Locks.{Held}

-- a key alone, or the range of a scan
abbrev pub range_of : Request → Interval
range_of (requests.Get key) = point key
range_of (requests.Put key value) = point key
range_of (requests.Del key) = point key
range_of (requests.Scan range) = range
range_of (requests.Apply operator key argument) = point key

-- shared by who reads
abbrev pub mode_of : Request → Mode
mode_of (requests.Get key) = Shared
mode_of (requests.Scan range) = Shared
mode_of _ = Exclusive

abbrev pub lock_of : Request → Held
lock_of request = held (range_of request) (mode_of request)

-- where a write takes room
abbrev pub MayLackRoom : Request → Type 0
MayLackRoom (requests.Get key) = ⊥
MayLackRoom (requests.Scan range) = ⊥
MayLackRoom _ = Unit {0}

abbrev pub IsApply : Request → Type 0
IsApply (requests.Apply operator key argument) = Unit {0}
IsApply _ = ⊥

-- a conflicting lock, want of room for a write, an operator that gives no value
abbrev pub IsRefusal : Request → Fault → Type 0
IsRefusal request (faults.Conflict holder range at) = Unit {0}
IsRefusal request (faults.Full pages pending at) = MayLackRoom request
IsRefusal request (faults.OpRefused at) = IsApply request
IsRefusal request _ = ⊥
