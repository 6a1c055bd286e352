-- What a status shows of the bytes of a log disk.
use Rattle.std.specs.Prelude.{[]}
use Rattle.log_blocks.specs.Log.{StandsFor}
use Rattle.media.specs.declared.disk.Disk.{Ghosts}
use Rattle.life_commands.specs.Bytes.{IsFormatted}
use Rattle.life_commands.specs.declared.status.Status.{Status}
use Rattle.life_commands.specs.declared.status.Status.TheVariants as statuses
use Rattle.opening.specs.Bytes.{IsBadLog}

-- Whatever the disk held: a log is refused as formatted only where an open gate stands on its disk with something behind
-- it, as not formatted only where the log is empty, and as bad only at its first fault.
abbrev pub Shows : {D : Type 0} → Ghosts D → D → Status → Type 0
Shows L disk statuses.AlreadyFormatted = L.tells → IsFormatted (L.told disk)
Shows L disk statuses.NotFormatted = L.tells → StandsFor [] (L.told disk)
Shows L disk (statuses.LogBad block byte) = L.tells → IsBadLog block byte (L.told disk)
Shows L disk _ = Unit {0}
