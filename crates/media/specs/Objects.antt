-- The objects of a vault.
use Rattle.std.specs.Prelude.{◌≡◌, ◌≢◌, ◌⊎◌, ℕ, List, []}
use Rattle.store_model.specs.declared.object.ObjectName.{ObjectName}

-- what a name stands for
pub data Stored : Type 0 where
  Absent : Stored
  Unsynced : List ℕ → Stored
  Synced : List ℕ → Stored

-- what a get reads; an absent object has no bytes
abbrev pub bytes_of : Stored → List ℕ
bytes_of Absent = []
bytes_of (Unsynced bytes) = bytes
bytes_of (Synced bytes) = bytes

-- the same after a sync
abbrev pub synced : Stored → Stored
synced Absent = Absent
synced (Unsynced bytes) = Synced bytes
synced (Synced bytes) = Synced bytes

-- isn't synced
abbrev pub IsLoose : Stored → Type 0
IsLoose Absent = Unit {0}
IsLoose (Unsynced bytes) = Unit {0}
IsLoose (Synced bytes) = ⊥

abbrev pub SameObjects : (ObjectName → Stored) → (ObjectName → Stored) → Type 0
SameObjects old new = (name : ObjectName) → new name ≡ old name

-- the objects of all other names stay
abbrev pub OtherObjects : ObjectName → (ObjectName → Stored) → (ObjectName → Stored) → Type 0
OtherObjects name old new = (other : ObjectName) → other ≢ name → new other ≡ old other

abbrev pub SyncsObjects : (ObjectName → Stored) → (ObjectName → Stored) → Type 0
SyncsObjects old new = (name : ObjectName) → new name ≡ synced (old name)

-- each object stays or is synced
abbrev pub MaySync : (ObjectName → Stored) → (ObjectName → Stored) → Type 0
MaySync old new = (name : ObjectName) → (new name ≡ old name) ⊎ (new name ≡ synced (old name))

-- what a crash may leave in place of an object: of an unsynced one nothing is known
abbrev pub MayLeave : Stored → Stored → Type 0
MayLeave Absent left = left ≡ Absent
MayLeave (Unsynced bytes) left = Unit {0}
MayLeave (Synced bytes) left = left ≡ Synced bytes

abbrev pub LeavesObjects : (ObjectName → Stored) → (ObjectName → Stored) → Type 0
LeavesObjects old new = (name : ObjectName) → MayLeave (old name) (new name)
