use Rattle.std.proofs.Common.{◌≡◌, ℕ, length, false}
use Rattle.restart.specs.Plans.{flag_at}
use Rattle.restart.proofs.flags.no_flags.Given as goal

abbrev pub invariant-loop : goal.invariant-loop
invariant-loop l = (length l.words.items ≡ l.counter) × ((n : ℕ) → flag_at l.words.items n ≡ false)
