-- What a put with its sync leaves of the objects.
use Rattle.std.specs.Prelude.{◌≡◌, ◌≢◌, ◌⊎◌, ℕ, List}
use Rattle.media.specs.Objects.{Stored, Synced, synced, IsLoose}
use Rattle.store_model.specs.declared.object.ObjectName.{ObjectName}

-- the object has these bytes, and all objects are synced
pub record Stores (name : ObjectName) (bytes : List ℕ) (old new : ObjectName → Stored) : Type 0 where
  pub object : new name ≡ Synced bytes
  pub others : (other : ObjectName) → other ≢ name → new other ≡ synced (old other)

-- the object of this name stays, or is an unsynced one, or has these bytes; each other one stays or is synced
pub record MayStore (name : ObjectName) (bytes : List ℕ) (old new : ObjectName → Stored) : Type 0 where
  pub object : (new name ≡ old name) ⊎ IsLoose (new name) ⊎ (new name ≡ Synced bytes)
  pub others : (other : ObjectName) → other ≢ name → (new other ≡ old other) ⊎ (new other ≡ synced (old other))
