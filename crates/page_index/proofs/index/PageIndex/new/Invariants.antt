use Rattle.std.proofs.Common.{◌≡◌, ℕ, length, None}
use Rattle.std.specs.Prelude.{slice_index_or}
use Rattle.page_index.proofs.index.PageIndex.new.Given as goal

abbrev pub invariant-loop : goal.invariant-loop
invariant-loop g l =
    (length l.homes.items ≡ l.counter) × (length l.written.items ≡ l.counter)
    × ((i : ℕ) → slice_index_or l.homes.items i None ≡ None)
    × ((i : ℕ) → slice_index_or l.written.items i 0 ≡ 0)
