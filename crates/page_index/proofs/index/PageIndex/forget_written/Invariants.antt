use Rattle.std.proofs.Common.{◌≡◌, ℕ, ◌<◌}
use Rattle.std.specs.Prelude.{slice_index_or}
use Rattle.page_index.proofs.index.PageIndex.forget_written.Given as goal

abbrev pub invariant-loop-written : goal.invariant-loop-written
invariant-loop-written g l = (i : ℕ) → i < l.written-index → slice_index_or l.written-items i 0 ≡ 0
