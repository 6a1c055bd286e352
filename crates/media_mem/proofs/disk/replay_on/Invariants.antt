use Rattle.std.proofs.Common.{◌≡◌, ◌≤◌, length, drop}
use Rattle.std.specs.Prelude.{vec_capacity}
use Rattle.media_mem.specs.History.{AreWithin, grown, replay}
use Rattle.media_mem.proofs.disk.replay_on.Given as goal

abbrev pub invariant-loop-write : goal.invariant-loop-write
invariant-loop-write l = record {
  same : replay (drop l.write-index l.writes) (record { start = l.start; bytes = l.bytes.items }) ≡ replay l.writes (record { start = l.start; bytes = l.fn.bytes.items });
  within : AreWithin l.start (length l.bytes.items) (drop l.write-index l.writes);
  room : grown l.start (length l.bytes.items) (drop l.write-index l.writes) ≤ vec_capacity l.bytes;
}
