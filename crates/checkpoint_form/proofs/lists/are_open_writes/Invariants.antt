use Rattle.std.proofs.Common.{◌≡◌, take}
use Rattle.std.specs.Prelude.{IsTrue}
use Rattle.store_model.specs.Along.{AllAlong}
use Rattle.wal_record.specs.Rules.{open_write_fits}
use Rattle.wal_record.specs.declared.record.OpenWrite.{OpenWrite}
use Rattle.checkpoint_form.proofs.Along.{top}
use Rattle.checkpoint_form.proofs.lists.are_open_writes.Given as goal

abbrev pub invariant-loop-write : goal.invariant-loop-write
invariant-loop-write l = record {
  last : l.last ≡ top (λ (w : OpenWrite). w.lsn) (take l.write-index l.writes);
  fit : AllAlong (λ before w. IsTrue (open_write_fits before w)) (take l.write-index l.writes);
}
