use Rattle.std.proofs.Common.{drop}
use Rattle.backup_set.proofs.Walking.{Walked}
use Rattle.backup_set.proofs.search.find.Given as goal

abbrev pub invariant-loop-place : goal.invariant-loop-place
invariant-loop-place l = Walked l.part.segment l.page l.place l.above (drop 20 l.bytes) l.rest
