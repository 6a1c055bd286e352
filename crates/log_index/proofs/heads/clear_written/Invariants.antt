use Rattle.std.proofs.Common.{◌≡◌}
use Rattle.log_index.proofs.Places.{cleared}
use Rattle.log_index.proofs.heads.clear_written.Given as goal

abbrev pub invariant-loop-entry : goal.invariant-loop-entry
invariant-loop-entry l = l.entry-items ≡ cleared l.entry-index l.fn.heads.items
