use Rattle.std.proofs.Common.{◌≡◌, drop}
use Rattle.log_archive.specs.Reading.{chunks_at}
use Rattle.log_archive.proofs.outline.chunks_at.Given as goal

abbrev pub invariant-loop-place : goal.invariant-loop-place
invariant-loop-place l = chunks_at l.size l.head l.place (drop l.place l.entries) l.rest ≡ chunks_at l.size l.head 0 l.entries l.bytes
