use Rattle.std.proofs.Common.{◌≡◌, take}
use Rattle.std.specs.Prelude.{IsTrue}
use Rattle.store_model.specs.Along.{AllAlong}
use Rattle.wal_record.specs.Rules.{segment_fits}
use Rattle.checkpoint_form.proofs.Along.{above}
use Rattle.checkpoint_form.proofs.lists.are_segments.Given as goal

abbrev pub invariant-loop-segment : goal.invariant-loop-segment
invariant-loop-segment l = record {
  least : l.least ≡ above (take l.segment-index l.segments);
  fit : AllAlong (λ before segment. IsTrue (segment_fits before segment)) (take l.segment-index l.segments);
}
