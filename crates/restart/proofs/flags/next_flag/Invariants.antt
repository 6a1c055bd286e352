use Rattle.std.proofs.Common.{◌≡◌, ◌<◌, ◌≤◌, ◌-◌, ℕ, false}
use Rattle.restart.specs.Plans.{flag_at}
use Rattle.restart.proofs.flags.next_flag.Given as goal

abbrev pub invariant-loop-place : goal.invariant-loop-place
invariant-loop-place l = (l.fn.from ≤ l.place) × ((n : ℕ) → l.fn.from ≤ n → n < l.place → flag_at l.words n ≡ false)

abbrev pub decreases-loop-place : goal.decreases-loop-place
decreases-loop-place l = l.fn.count - l.place
