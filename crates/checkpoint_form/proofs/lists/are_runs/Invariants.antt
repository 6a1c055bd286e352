use Rattle.std.proofs.Common.{◌≡◌, take}
use Rattle.std.specs.Prelude.{IsTrue}
use Rattle.store_model.specs.Along.{AllAlong}
use Rattle.wal_record.specs.Rules.{run_fits}
use Rattle.wal_record.specs.declared.analysis.Run.{Run}
use Rattle.checkpoint_form.proofs.Along.{top}
use Rattle.checkpoint_form.proofs.lists.are_runs.Given as goal

abbrev pub invariant-loop-run : goal.invariant-loop-run
invariant-loop-run l = record {
  last : l.last ≡ top (λ (x : Run). x.first) (take l.run-index l.runs);
  fit : AllAlong (λ before x. IsTrue (run_fits before x)) (take l.run-index l.runs);
}
