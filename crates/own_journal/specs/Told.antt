-- What a thread that owns its journal is told.
use Rattle.std.specs.Prelude.{Some}
use Rattle.page_ops.specs.Seeing.{Account, Calls}

-- its account, with the calls of the log disk
abbrev pub told : Account → Calls → Account
told counts calls = record counts { calls = Some calls }
