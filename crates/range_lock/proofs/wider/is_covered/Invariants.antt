use Rattle.std.proofs.Common.{take}
use Rattle.range_lock.specs.Tables.{IsCoveredByOne}
use Rattle.range_lock.proofs.wider.is_covered.Given as goal

abbrev pub invariant-loop-lock : goal.invariant-loop-lock
invariant-loop-lock l = IsCoveredByOne (take l.lock-index l.held) l.range l.mode → ⊥
