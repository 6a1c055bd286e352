use Rattle.std.proofs.Common.{◌≡◌}
use Rattle.std.specs.Prelude.{map}
use Rattle.media_mem.specs.History.{piece_of}
use Rattle.media_mem.proofs.disk.tear.Given as goal

abbrev pub invariant-loop-write : goal.invariant-loop-write
invariant-loop-write l = map piece_of l.write-items ≡ map piece_of l.fn.writes.items
