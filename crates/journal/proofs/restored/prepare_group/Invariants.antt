use Rattle.std.proofs.Common.{◌≡◌, ℕ, take}
use Rattle.page_ops.specs.Groups.{Each}
use Rattle.journal.specs.Restored.{HasRoomIn, place_in}
use Rattle.journal.proofs.restored.prepare_group.Given as goal

abbrev pub invariant-loop-rec : goal.invariant-loop-rec
invariant-loop-rec l = record {
  same : (s : ℕ) → place_in l.places s ≡ place_in l.fn.places s;
  room : Each (HasRoomIn l.places) (take l.rec-index l.recs);
}
