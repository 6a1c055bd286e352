use Rattle.std.proofs.Common.{◌≡◌, ℕ, length}
use Rattle.std.specs.Prelude.{slice_index_or}
use Rattle.buffer_pool.specs.declared.frame.Frame.TheVariants.{Empty}
use Rattle.buffer_pool.proofs.frames.Frames.new.Given as goal

abbrev pub invariant-loop : goal.invariant-loop
invariant-loop g l = (length l.frames.items ≡ l.counter) × ((i : ℕ) → slice_index_or l.frames.items i Empty ≡ Empty)
