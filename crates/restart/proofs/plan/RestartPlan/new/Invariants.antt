use Rattle.std.proofs.Common.{◌≡◌, ◌<◌, ◌≤◌, ◌*◌, ℕ, length, Some, false}
use Rattle.std.specs.Prelude.{slice_get}
use Rattle.wal_record.specs.declared.analysis.PageHead.{PageHead}
use Rattle.restart.specs.Plans.{flag_at, is_behind}
use Rattle.restart.proofs.plan.RestartPlan.new.Given as goal

abbrev pub invariant-loop-place : goal.invariant-loop-place
invariant-loop-place l =
    (length l.fn.analysis.heads ≤ 64 * length l.words.items)
    × ((k : ℕ) (h : PageHead) → k < l.place → slice_get l.fn.analysis.heads k ≡ Some h → flag_at l.words.items k ≡ is_behind h)
    × ((k : ℕ) → l.place ≤ k → flag_at l.words.items k ≡ false)
