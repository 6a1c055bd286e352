use Rattle.std.proofs.Common.{◌≡◌, ◌≤◌, ◌<◌, ◌-◌, ℕ, length, false}
use Rattle.buffer_pool.specs.Tables.{frame_of, is_dirty}
use Rattle.buffer_pool.proofs.frames.Frames.next_dirty.Given as goal

abbrev pub invariant-loop-page : goal.invariant-loop-page
invariant-loop-page g l = (l.fn.after ≤ l.page) × ((q : ℕ) → l.fn.after < q → q ≤ l.page → is_dirty (frame_of l.self q) ≡ false)

abbrev pub decreases-loop-page : goal.decreases-loop-page
decreases-loop-page g l = length l.self.frames - l.page
