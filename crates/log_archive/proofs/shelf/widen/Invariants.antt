use Rattle.std.proofs.Common.{◌≡◌, ℕ, ◌≤◌, length}
use Rattle.log_archive.specs.Shelves.{shelf_at}
use Rattle.log_archive.proofs.shelf.widen.Given as goal

abbrev pub invariant-loop : goal.invariant-loop
invariant-loop l = record {
  same : (p : ℕ) → shelf_at l.shelves.items p ≡ shelf_at l.fn.shelves.items p;
  size : length l.shelves.items ≡ l.counter;
  few : length l.fn.shelves.items ≤ 16384 → length l.shelves.items ≤ 16384;
}
