use Rattle.std.proofs.Common.{◌≡◌, take, map}
use Rattle.wal_record.specs.declared.record.OpenWrite.{OpenWrite}
use Rattle.log_index.proofs.copies.lsns_of.Given as goal

abbrev pub invariant-loop-write : goal.invariant-loop-write
invariant-loop-write l = l.made.items ≡ map (λ (w : OpenWrite). w.lsn) (take l.write-index l.writes)
