use Rattle.std.proofs.Common.{◌≡◌, take}
use Rattle.log_index.proofs.copies.copy_writes.Given as goal

abbrev pub invariant-loop-write : goal.invariant-loop-write
invariant-loop-write l = l.made.items ≡ take l.write-index l.writes
