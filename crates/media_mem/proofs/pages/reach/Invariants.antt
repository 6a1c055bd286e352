use Rattle.std.proofs.Common.{◌≡◌, ◌+◌, ◌-◌, ℕ, length}
use Rattle.media_mem.specs.Slots.{IsSpoiled, newest_in}
use Rattle.media_mem.proofs.pages.reach.Given as goal

abbrev pub invariant-loop-slots : goal.invariant-loop-slots
invariant-loop-slots l = record {
  newest : (p : ℕ) → newest_in l.slots.items p ≡ newest_in l.fn.slots.items p;
  spoiled : (p : ℕ) → IsSpoiled l.fn.slots.items p → IsSpoiled l.slots.items p;
}

abbrev pub decreases-loop-slots : goal.decreases-loop-slots
decreases-loop-slots l = l.page + 1 - length l.slots.items
