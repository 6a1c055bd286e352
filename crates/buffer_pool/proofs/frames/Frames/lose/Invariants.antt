use Rattle.std.proofs.Common.{◌≤◌, ◌-◌}
use Rattle.page_index.specs.Index.{limit_of}
use Rattle.buffer_pool.proofs.Losing.{LosesUpTo}
use Rattle.buffer_pool.proofs.frames.Frames.lose.Given as goal

abbrev pub invariant-loop-page : goal.invariant-loop-page
invariant-loop-page g l = (l.page ≤ limit_of l.self.index) × LosesUpTo l.page l.fn.self l.self

abbrev pub decreases-loop-page : goal.decreases-loop-page
decreases-loop-page g l = limit_of l.self.index - l.page
