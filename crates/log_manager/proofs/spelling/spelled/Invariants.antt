use Rattle.std.proofs.Common.{◌≡◌, ◌++◌, drop}
use Rattle.log_manager.specs.Payload.{bytes_of}
use Rattle.log_manager.proofs.spelling.spelled.Given as goal

abbrev pub invariant-loop-rec : goal.invariant-loop-rec
invariant-loop-rec l = l.bytes.items ++ bytes_of (drop l.rec-index l.recs) ≡ bytes_of l.recs
