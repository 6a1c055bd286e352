-- What is ready for a record, so that noting it takes no memory.
use Rattle.std.specs.Prelude.{◌≡◌, ◌<◌, Bool, true, false, vec_len, vec_capacity}
use Rattle.std.specs.Global.{Vec}
use Rattle.wal_record.specs.declared.analysis.PageHead.{PageHead}
use Rattle.wal_record.specs.declared.record.Record.{Record}
use Rattle.wal_record.specs.declared.record.Record.TheVariants as kinds
use Rattle.wal_record.specs.Upkeep.{segments, with_run}
use Rattle.log_index.specs.declared.upkeep.Upkeep.{Upkeep}
use Rattle.log_index.specs.Table.{Table, HasRoom}

-- the record makes a page
abbrev pub makes_page : Record → Bool
makes_page (kinds.Format f) = true
makes_page (kinds.Split s) = true
makes_page (kinds.Grow g) = true
makes_page _ = false

abbrev pub HasFree : Vec PageHead → Bool → Type 0
HasFree heads true = vec_len heads < vec_capacity heads
HasFree heads false = Unit {0}

-- there is a place for the page that the record makes, if it makes one
abbrev pub HasPlace : Record → Vec PageHead → Type 0
HasPlace r heads = HasFree heads (makes_page r)

-- and for its transaction's open write
abbrev pub HasPlaceIn : Record → Table → Type 0
HasPlaceIn (kinds.Write w) table = HasRoom table w.tx
HasPlaceIn (kinds.Apply a) table = HasRoom table a.tx
HasPlaceIn (kinds.Undo u) table = HasRoom table u.tx
HasPlaceIn _ table = Unit {0}

-- what the record makes of segments and runs stands beside them
abbrev pub IsReadyFor : Record → Upkeep → Type 0
IsReadyFor (kinds.Lost l) upkeep = upkeep.next_unrestored.items ≡ segments l.pages
IsReadyFor (kinds.RunDone d) upkeep = upkeep.next_runs.items ≡ with_run d upkeep.runs.items
IsReadyFor _ upkeep = Unit {0}

-- the record changes segments or runs as a whole
abbrev pub is_upkeep : Record → Bool
is_upkeep (kinds.Lost l) = true
is_upkeep (kinds.RunDone d) = true
is_upkeep _ = false
