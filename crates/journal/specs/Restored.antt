-- Where each segment was restored last in a life.
use Rattle.std.specs.Prelude.{◌≡◌, ℕ, List, Option, Some, None, Bool, true, is_some}
use Rattle.std.specs.Option.{option_map_or}
use Rattle.std.specs.Ordering.{nat_cmp}
use Rattle.std.specs.BTreeMap.{BTreeMap, get}
use Rattle.page_ops.specs.Asking.{forestalls, last_place}
use Rattle.wal_record.specs.declared.record.Record.{Record}
use Rattle.wal_record.specs.declared.record.Record.TheVariants as kinds
use Rattle.wal_record.specs.declared.entry.Entry.{Entry}

abbrev pub Places : Type 0
Places = BTreeMap ℕ ℕ

-- the entry says that the segment is restored
abbrev pub restores : ℕ → Entry → Bool
restores s = forestalls (kinds.Restored (record { segment = s }))

-- the place that the table has for a segment, 0 for none
abbrev pub place_in : Places → ℕ → ℕ
place_in x s = option_map_or (λ (n : ℕ). n) (get nat_cmp x s) 0

-- the table has of each segment where its last Restored stands
abbrev pub AreRestored : List Entry → Places → Type 0
AreRestored h x = (s : ℕ) → place_in x s ≡ last_place (restores s) h

-- the segment that the record says to be restored, if it says so of one
abbrev pub restored_in : Record → Option ℕ
restored_in (kinds.Restored r) = Some r.segment
restored_in _ = None

abbrev pub HasRoomAt : Places → Option ℕ → Type 0
HasRoomAt x None = Unit {0}
HasRoomAt x (Some s) = is_some (get nat_cmp x s) ≡ true

-- the table has room for where the record stands
abbrev pub HasRoomIn : Places → Record → Type 0
HasRoomIn x r = HasRoomAt x (restored_in r)
