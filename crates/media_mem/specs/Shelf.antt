-- The objects that a vault in memory holds.
use Rattle.std.specs.Prelude.{◌≡◌, ℕ, zero, suc, List, [], ◌∷◌, Bool, true, false, ◌&&◌, ◌==◌, if◌then◌else◌}
use Rattle.media.specs.Objects.{Stored, Absent, Unsynced, Synced}
use Rattle.store_model.specs.declared.object.ObjectName.{ObjectName}
use Rattle.store_model.specs.declared.object.ObjectKind.{ObjectKind}
use Rattle.store_model.specs.declared.object.ObjectKind.TheVariants.{Run, Backup}
use Rattle.media_mem.specs.declared.vault.State.{State}
use Rattle.media_mem.specs.declared.vault.State.TheVariants as states

-- an object, or the place of one that is gone
pub record Held : Type 0 where
  pub name : ObjectName
  pub bytes : List ℕ
  pub state : State

pub record MemHeld : Type 0 where
  pub objects : List Held
  pub faults : ℕ

abbrev pub same_kind : ObjectKind → ObjectKind → Bool
same_kind Run Run = true
same_kind Run Backup = false
same_kind Backup Run = false
same_kind Backup Backup = true

abbrev pub same_name : ObjectName → ObjectName → Bool
same_name a b = same_kind a.kind b.kind && (a.id == b.id && a.part == b.part)

abbrev pub stands_for : State → List ℕ → Stored
stands_for states.Absent bytes = Absent
stands_for states.Unsynced bytes = Unsynced bytes
stands_for states.Synced bytes = Synced bytes

-- what a name stands for: the first object that has it
abbrev pub stored : List Held → ObjectName → Stored
stored [] name = Absent
stored (o ∷ os) name = if same_name o.name name then stands_for o.state o.bytes else stored os name

-- a sync of one object
abbrev pub synced_state : State → State
synced_state states.Absent = states.Absent
synced_state states.Unsynced = states.Synced
synced_state states.Synced = states.Synced

abbrev pub synced_object : Held → Held
synced_object o = record { name = o.name; bytes = o.bytes; state = synced_state o.state }

-- what a power cycle leaves of one object
abbrev pub left_state : State → State
left_state states.Absent = states.Absent
left_state states.Unsynced = states.Absent
left_state states.Synced = states.Synced

abbrev pub left_object : Held → Held
left_object o = record { name = o.name; bytes = o.bytes; state = left_state o.state }

-- the first object with this name is the one at i
abbrev pub IsFirst : ObjectName → ℕ → List Held → Type 0
IsFirst name i [] = ⊥
IsFirst name zero (o ∷ os) = same_name o.name name ≡ true
IsFirst name (suc i) (o ∷ os) = (same_name o.name name ≡ false) × IsFirst name i os

-- no object has this name
abbrev pub HasNone : ObjectName → List Held → Type 0
HasNone name [] = Unit {0}
HasNone name (o ∷ os) = (same_name o.name name ≡ false) × HasNone name os
