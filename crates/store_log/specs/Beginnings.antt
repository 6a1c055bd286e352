-- Logs on which a life may begin.
use Rattle.std.specs.Prelude.{List}
use Rattle.media.specs.declared.disk.Disk.{Ghosts}
use Rattle.log_index.specs.declared.listing.Listing.{Listing}
use Rattle.log_manager.specs.Devices.{DevicesStandFor}
use Rattle.log_manager.specs.Managed.{Managed}
use Rattle.wal_record.specs.declared.record.Record.{Record}
use Rattle.opening.specs.Begins.{MayBegin}

-- a log that was read, on which a life may begin
pub record Beginning (D : Type 0) : Type 0 where
  pub log : Managed D
  pub listing : Listing

-- a life may begin with this log, which its disk kept
pub record BeginsOn {D : Type 0} (tells : Type 0) (L : Ghosts D) (b : Beginning D) (opening : List Record) : Type 0 where
  pub may : MayBegin tells L.told L.may_leave b.log b.listing opening
  pub stands : DevicesStandFor L.told L.may_leave b.log.log.device opening
